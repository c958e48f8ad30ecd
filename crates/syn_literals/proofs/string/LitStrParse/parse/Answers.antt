use Rattle.std.proofs.lemmas.Grind.{common_steps}
use Rattle.std.proofs.Common.{arith}
use Rattle.syn_literals.proofs.Told.{string_told}
use Rattle.syn_literals.proofs.string.LitStrParse.parse.Goals as goal

pub returns-clause-takes : goal.returns-clause-takes
returns-clause-takes c = grind (arith, common_steps, string_told)
