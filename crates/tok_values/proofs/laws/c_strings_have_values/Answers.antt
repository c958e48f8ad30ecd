use Rattle.tok_values.proofs.CValued.{c_strings_have_values, raw_c_strings_have_values}
use Rattle.tok_values.proofs.laws.c_strings_have_values.Goals as goal

pub returns-clause-quoted : goal.returns-clause-quoted
returns-clause-quoted c = c_strings_have_values

pub returns-clause-raw : goal.returns-clause-raw
returns-clause-raw c = raw_c_strings_have_values
