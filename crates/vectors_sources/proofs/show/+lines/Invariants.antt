use Rattle.std.proofs.Common.{◌+◌}
use Rattle.tok_core.specs.Seen.{tree_of}
use Rattle.tok_core.specs.Weight.{weight, tree_weight}
use Rattle.vectors_sources.proofs.show.+lines.Given as goal

abbrev pub decreases-push_stream : goal.decreases-push_stream
decreases-push_stream l = weight l.stream.now + 1

abbrev pub decreases-push_tree : goal.decreases-push_tree
decreases-push_tree l = tree_weight (tree_of l.next.now)
