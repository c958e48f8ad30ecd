use Rattle.tok_values.proofs.Values.{integers_have_one_value, strings_have_one_value}
use Rattle.tok_values.proofs.laws.values_are_functions.Goals as goal

pub returns-clause-strings : goal.returns-clause-strings
returns-clause-strings c = strings_have_one_value

pub returns-clause-integers : goal.returns-clause-integers
returns-clause-integers c = integers_have_one_value
