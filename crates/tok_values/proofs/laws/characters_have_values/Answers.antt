use Rattle.tok_values.proofs.CharsValued.{bytes_have_values, characters_have_values}
use Rattle.tok_values.proofs.laws.characters_have_values.Goals as goal

pub returns-clause-characters : goal.returns-clause-characters
returns-clause-characters c = characters_have_values

pub returns-clause-bytes : goal.returns-clause-bytes
returns-clause-bytes c = bytes_have_values
