use Rattle.std.proofs.Common.{◌+◌}
use Rattle.tok_core.specs.Seen.{tree_of}
use Rattle.tok_core.specs.Weight.{weight, tree_weight}
use Rattle.workloads.proofs.sources.+trees.Given as goal

abbrev pub decreases-digest_stream : goal.decreases-digest_stream
decreases-digest_stream l = weight l.stream.now + 1

abbrev pub decreases-digest_tree : goal.decreases-digest_tree
decreases-digest_tree l = tree_weight (tree_of l.tree.now)
