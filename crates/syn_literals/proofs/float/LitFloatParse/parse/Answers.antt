use Rattle.std.proofs.lemmas.Grind.{common_steps}
use Rattle.std.proofs.Common.{arith}
use Rattle.syn_literals.proofs.Told.{float_told}
use Rattle.syn_literals.proofs.float.LitFloatParse.parse.Goals as goal

pub returns-clause-takes : goal.returns-clause-takes
returns-clause-takes c = grind (arith, common_steps, float_told)
