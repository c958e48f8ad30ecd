use Rattle.std.proofs.Common.{◌+◌, ◌≤◌}
use Rattle.tok_core.specs.Erase.{erase}
use Rattle.tok_core.specs.Private.Pending.{all_of, pending, pending_weight}
use Rattle.tok_core.specs.Seen.{tree_of}
use Rattle.tok_core.specs.Weight.{weight, tree_weight}
use Rattle.tok_core.proofs.SameVisible.{SameAs}
use Rattle.tok_core.proofs.invisible.+same.Given as goal

abbrev pub decreases-same_visible : goal.decreases-same_visible
decreases-same_visible l = weight l.left.now + 1

abbrev pub decreases-same_tree : goal.decreases-same_tree
decreases-same_tree l = tree_weight (tree_of l.left.now)

abbrev pub decreases-same_visible-loop-theirs : goal.decreases-same_visible-loop-theirs
decreases-same_visible-loop-theirs l = pending_weight (all_of l.ours)

abbrev pub invariant-same_visible-loop-theirs : goal.invariant-same_visible-loop-theirs
invariant-same_visible-loop-theirs l =
    SameAs (pending (all_of l.ours)) (pending (all_of l.theirs)) (erase l.left) (erase l.right)
    × (pending_weight (all_of l.ours) ≤ weight l.left)
