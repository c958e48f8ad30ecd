use Rattle.tok_values.proofs.ByteCharacters.{byte_characters_are_read}
use Rattle.tok_values.proofs.laws.byte_characters_are_read.Goals as goal

pub returns : goal.returns
returns c = byte_characters_are_read
