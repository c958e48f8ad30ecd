use Rattle.std.proofs.lemmas.Grind.{common_steps}
use Rattle.std.proofs.Common.{arith}
use Rattle.tok_buffer.proofs.cursor.Cursor.leftover.Goals as goal

pub returns-else-marked : goal.returns-else-marked
returns-else-marked c = grind (arith, common_steps)
