use Rattle.tok_buffer.proofs.Onwards.{entries_go_on}
use Rattle.tok_buffer.proofs.laws.entries_go_on.Goals as goal

pub returns : goal.returns
returns c = entries_go_on
