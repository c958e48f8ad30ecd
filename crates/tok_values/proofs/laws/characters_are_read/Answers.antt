use Rattle.tok_values.proofs.Chars.{characters_are_read}
use Rattle.tok_values.proofs.laws.characters_are_read.Goals as goal

pub returns : goal.returns
returns c = characters_are_read
