use Rattle.tok_values.proofs.Valued.{byte_strings_have_values, plain_strings_have_values}
use Rattle.tok_values.proofs.Valued.{strings_have_values}
use Rattle.tok_values.proofs.laws.strings_have_values.Goals as goal

pub returns-clause-strings : goal.returns-clause-strings
returns-clause-strings c = strings_have_values

pub returns-clause-plain : goal.returns-clause-plain
returns-clause-plain c = plain_strings_have_values

pub returns-clause-bytes : goal.returns-clause-bytes
returns-clause-bytes c = byte_strings_have_values
