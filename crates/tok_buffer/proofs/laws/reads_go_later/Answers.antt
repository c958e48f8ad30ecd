use Rattle.tok_buffer.proofs.Onwards.{reads_go_later}
use Rattle.tok_buffer.proofs.laws.reads_go_later.Goals as goal

pub returns : goal.returns
returns c = reads_go_later
