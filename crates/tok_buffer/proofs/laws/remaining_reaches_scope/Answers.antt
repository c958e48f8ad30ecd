use Rattle.tok_buffer.proofs.Measured.{cursors_reach_scope}
use Rattle.tok_buffer.proofs.laws.remaining_reaches_scope.Goals as goal

pub returns : goal.returns
returns c = cursors_reach_scope
