use Rattle.std.proofs.Common.{◌+◌}
use Rattle.tok_core.specs.Seen.{tree_of}
use Rattle.tok_core.specs.Weight.{weight, tree_weight}
use Rattle.workloads.proofs.trees.+values.Given as goal

abbrev pub decreases-digest_values : goal.decreases-digest_values
decreases-digest_values l = weight l.stream.now + 1

abbrev pub decreases-digest_tree_values : goal.decreases-digest_tree_values
decreases-digest_tree_values l = tree_weight (tree_of l.tree.now)
