use Rattle.tok_buffer.proofs.Joined.{passed_join}
use Rattle.tok_buffer.proofs.laws.passed_trees_join.Goals as goal

pub returns : goal.returns
returns c = passed_join
