use Rattle.std.proofs.Common.{◌≡◌, ◌+◌, drop, length}
use Rattle.tok_core.specs.Seen.{tree_of, trees_of}
use Rattle.tok_core.specs.Spanless.{alike}
use Rattle.tok_core.specs.Weight.{weight, tree_weight}
use Rattle.tok_core.proofs.tt.+alike.Given as goal

abbrev pub decreases-are_alike : goal.decreases-are_alike
decreases-are_alike l = weight l.left.now + 1

abbrev pub decreases-is_alike : goal.decreases-is_alike
decreases-is_alike l = tree_weight (tree_of l.left.now)

abbrev pub invariant-are_alike-loop-i : goal.invariant-are_alike-loop-i
invariant-are_alike-loop-i l =
    (length l.ours ≡ length l.theirs)
    × (alike (trees_of (drop l.i l.ours)) (trees_of (drop l.i l.theirs))
    ≡ alike (trees_of l.ours) (trees_of l.theirs))
