use Rattle.std.proofs.Common.{◌≡◌, ◌+◌, ◌≤◌, length}
use Rattle.tok_core.specs.Private.Pending.{all_of, pending, pending_weight}
use Rattle.tok_core.proofs.invisible.VisibleTrees.next.Given as goal

abbrev pub decreases-loop-first : goal.decreases-loop-first
decreases-loop-first l = pending_weight (all_of l.self) + length l.self.outer.items

abbrev pub invariant-loop-first : goal.invariant-loop-first
invariant-loop-first l =
    (pending (all_of l.self) ≡ pending (all_of l.fn.self))
    × (pending_weight (all_of l.self) ≤ pending_weight (all_of l.fn.self))
