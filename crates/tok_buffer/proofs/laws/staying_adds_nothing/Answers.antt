use Rattle.tok_buffer.proofs.Measured.{cursors_lose_none}
use Rattle.tok_buffer.proofs.laws.staying_adds_nothing.Goals as goal

pub returns : goal.returns
returns c = cursors_lose_none
