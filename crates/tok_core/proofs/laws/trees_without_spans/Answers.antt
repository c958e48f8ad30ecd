use Rattle.tok_core.specs.Private.Alikes.{tree_alike_decides, tree_input_spanless}
use Rattle.tok_core.specs.Seen.{tree_of}
use Rattle.tok_core.proofs.laws.trees_without_spans.Goals as goal

pub returns-clause-equal : goal.returns-clause-equal
returns-clause-equal c left right = tree_alike_decides (tree_of left.0.now) (tree_of right.0.now)

pub returns-clause-hash : goal.returns-clause-hash
returns-clause-hash c value = tree_input_spanless (tree_of value.0.now)
