use Rattle.std.proofs.Common.{◌≡◌, ◌+◌, drop}
use Rattle.tok_core.specs.Clear.{clear}
use Rattle.tok_core.specs.Seen.{tree_of, trees_of}
use Rattle.tok_core.specs.Weight.{weight, tree_weight}
use Rattle.tok_core.proofs.Clears.{clear_after}
use Rattle.tok_core.proofs.invisible.+clear.Given as goal

abbrev pub decreases-is_clear : goal.decreases-is_clear
decreases-is_clear l = weight l.stream.now + 1

abbrev pub decreases-is_tree_clear : goal.decreases-is_tree_clear
decreases-is_tree_clear l = tree_weight (tree_of l.next.now)

abbrev pub invariant-is_clear-loop-next : goal.invariant-is_clear-loop-next
invariant-is_clear-loop-next l = clear_after l.joint (trees_of (drop l.next-index l.next-items))
    ≡ clear (trees_of l.next-items)
