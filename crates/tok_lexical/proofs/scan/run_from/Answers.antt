use Rattle.std.proofs.lemmas.Grind.{common_steps}
use Rattle.std.proofs.Common.{arith}
use Rattle.tok_lexical.proofs.scan.run_from.Goals as goal

pub returns : goal.returns
returns g c = grind (arith, common_steps)
