use Rattle.tok_values.proofs.OneValue.{byte_strings, bytes, c_strings, characters, strings}
use Rattle.tok_values.proofs.laws.literals_have_one_value.Goals as goal

pub returns-clause-strings : goal.returns-clause-strings
returns-clause-strings c = strings

pub returns-clause-byte_strings : goal.returns-clause-byte_strings
returns-clause-byte_strings c = byte_strings

pub returns-clause-c_strings : goal.returns-clause-c_strings
returns-clause-c_strings c = c_strings

pub returns-clause-characters : goal.returns-clause-characters
returns-clause-characters c = characters

pub returns-clause-bytes : goal.returns-clause-bytes
returns-clause-bytes c = bytes
