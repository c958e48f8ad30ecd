use Rattle.tok_values.proofs.Read.{strings_are_read}
use Rattle.tok_values.proofs.laws.strings_are_read.Goals as goal

pub returns : goal.returns
returns c = strings_are_read
