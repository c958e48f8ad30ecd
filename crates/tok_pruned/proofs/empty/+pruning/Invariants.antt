use Rattle.std.proofs.Common.{◌≡◌, ◌+◌, ◌≤◌}
use Rattle.std.specs.Vec.Iter.{into_iter_items}
use Rattle.tok_core.specs.Forest.{concat}
use Rattle.tok_core.specs.Seen.{tree_of, trees_of}
use Rattle.tok_core.specs.Weight.{weight, tree_weight}
use Rattle.tok_pruned.specs.Pruned.{pruned}
use Rattle.tok_pruned.proofs.empty.+pruning.Given as goal

abbrev pub decreases-prune_level : goal.decreases-prune_level
decreases-prune_level l = weight l.stream + 1

abbrev pub decreases-prune_tree : goal.decreases-prune_tree
decreases-prune_tree l = tree_weight (tree_of l.next)

abbrev pub invariant-prune_level-loop-next : goal.invariant-prune_level-loop-next
invariant-prune_level-loop-next l =
    (goal.iterator-prune_level-loop-next).can_next l.next-iterator
    × (goal.iterator-prune_level-loop-next).is_finite l.next-iterator
    × (concat l.kept (pruned (trees_of (into_iter_items l.next-iterator))) ≡ pruned l.fn.stream)
    × (weight (trees_of (into_iter_items l.next-iterator)) ≤ weight l.fn.stream)
