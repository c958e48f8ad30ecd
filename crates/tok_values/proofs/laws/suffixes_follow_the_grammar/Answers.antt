use Rattle.tok_values.proofs.Endings.{integers_have_their_suffix, quoted_have_their_suffix}
use Rattle.tok_values.proofs.FloatEndings.{floats_have_their_suffix, pointed_have_no_suffix}
use Rattle.tok_values.proofs.laws.suffixes_follow_the_grammar.Goals as goal

pub returns-clause-quoted : goal.returns-clause-quoted
returns-clause-quoted c = quoted_have_their_suffix

pub returns-clause-integers : goal.returns-clause-integers
returns-clause-integers c = integers_have_their_suffix

pub returns-clause-floats : goal.returns-clause-floats
returns-clause-floats c = floats_have_their_suffix

pub returns-clause-pointed : goal.returns-clause-pointed
returns-clause-pointed c = pointed_have_no_suffix
