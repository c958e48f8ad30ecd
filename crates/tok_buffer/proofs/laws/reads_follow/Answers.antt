use Rattle.tok_buffer.proofs.Followed.{reads_follow}
use Rattle.tok_buffer.proofs.laws.reads_follow.Goals as goal

pub returns : goal.returns
returns c = reads_follow
