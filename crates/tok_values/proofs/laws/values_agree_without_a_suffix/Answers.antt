use Rattle.tok_values.proofs.Agreeing.{byte_strings_agree, bytes_agree, characters_agree}
use Rattle.tok_values.proofs.Agreeing.{strings_agree}
use Rattle.tok_values.proofs.laws.values_agree_without_a_suffix.Goals as goal

pub returns-clause-strings : goal.returns-clause-strings
returns-clause-strings c = strings_agree

pub returns-clause-byte_strings : goal.returns-clause-byte_strings
returns-clause-byte_strings c = byte_strings_agree

pub returns-clause-characters : goal.returns-clause-characters
returns-clause-characters c = characters_agree

pub returns-clause-bytes : goal.returns-clause-bytes
returns-clause-bytes c = bytes_agree
