use Rattle.tok_buffer.proofs.View.InFront.{ahead_tells, ahead_tells_ends, all_ahead_at_start}
use Rattle.tok_buffer.proofs.laws.ahead_tells.Goals as goal

pub returns-clause-calls : goal.returns-clause-calls
returns-clause-calls c = ahead_tells

pub returns-clause-ends : goal.returns-clause-ends
returns-clause-ends c = ahead_tells_ends

pub returns-clause-start : goal.returns-clause-start
returns-clause-start c = all_ahead_at_start
