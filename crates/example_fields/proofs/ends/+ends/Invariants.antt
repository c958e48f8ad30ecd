use Rattle.std.proofs.Common.{◌≡◌, ◌+◌, drop}
use Rattle.tok_core.specs.Erase.{erase}
use Rattle.tok_core.specs.Seen.{tree_of, trees_of}
use Rattle.tok_core.specs.Weight.{tree_weight, weight}
use Rattle.example_fields.specs.Ends.{ends_after}
use Rattle.example_fields.proofs.ends.+ends.Given as goal

abbrev pub decreases-ends_after : goal.decreases-ends_after
decreases-ends_after l = weight l.tokens.now + 1

abbrev pub decreases-ends_of_tree : goal.decreases-ends_of_tree
decreases-ends_of_tree l = tree_weight (tree_of l.next.now)

abbrev pub invariant-ends_after-loop-next : goal.invariant-ends_after-loop-next
invariant-ends_after-loop-next l =
    ends_after l.ends (erase (trees_of (drop l.next-index l.next-items)))
    ≡ ends_after l.initial.ends (erase (trees_of l.next-items))
