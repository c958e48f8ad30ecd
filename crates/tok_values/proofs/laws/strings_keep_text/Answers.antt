use Rattle.tok_values.proofs.Read.{strings_keep_text}
use Rattle.tok_values.proofs.laws.strings_keep_text.Goals as goal

pub returns : goal.returns
returns c = strings_keep_text
