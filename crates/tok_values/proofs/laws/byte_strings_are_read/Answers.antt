use Rattle.tok_values.proofs.Bytes.{byte_strings_are_read}
use Rattle.tok_values.proofs.laws.byte_strings_are_read.Goals as goal

pub returns : goal.returns
returns c = byte_strings_are_read
