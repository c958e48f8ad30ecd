use Rattle.tok_buffer.proofs.Onwards.{reads_keep_scope}
use Rattle.tok_buffer.proofs.laws.reads_keep_scope.Goals as goal

pub returns : goal.returns
returns c = reads_keep_scope
