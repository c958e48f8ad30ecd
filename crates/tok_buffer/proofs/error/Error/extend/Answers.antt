use Rattle.std.proofs.lemmas.Grind.{common_steps}
use Rattle.std.proofs.Common.{arith}
use Rattle.tok_buffer.proofs.error.Error.extend.Goals as goal

pub loop-another-init : goal.loop-another-init
loop-another-init g c = grind (arith, common_steps)

pub loop-another-preserved : goal.loop-another-preserved
loop-another-preserved g c = grind (arith, common_steps)
