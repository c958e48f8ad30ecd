use Rattle.tok_values.proofs.CBytes.{c_strings_are_read}
use Rattle.tok_values.proofs.laws.c_strings_are_read.Goals as goal

pub returns : goal.returns
returns c = c_strings_are_read
