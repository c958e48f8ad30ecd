use Rattle.std.proofs.Common.{◌≡◌, ◌+◌, drop}
use Rattle.tok_core.specs.Filled.{filled}
use Rattle.tok_core.specs.Seen.{tree_of, trees_of}
use Rattle.tok_core.specs.Weight.{weight, tree_weight}
use Rattle.tok_core.proofs.invisible.+filled.Given as goal

abbrev pub decreases-is_filled : goal.decreases-is_filled
decreases-is_filled l = weight l.stream.now + 1

abbrev pub decreases-is_tree_filled : goal.decreases-is_tree_filled
decreases-is_tree_filled l = tree_weight (tree_of l.next.now)

abbrev pub invariant-is_filled-loop-next : goal.invariant-is_filled-loop-next
invariant-is_filled-loop-next l = filled (trees_of (drop l.next-index l.next-items))
    ≡ filled (trees_of l.next-items)
