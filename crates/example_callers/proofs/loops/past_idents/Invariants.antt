use Rattle.tok_buffer.specs.Cursors.{place_of}
use Rattle.tok_buffer.specs.Progress.{StaysIn, remaining}
use Rattle.example_callers.specs.Loops.{PassesIdents}
use Rattle.example_callers.proofs.loops.past_idents.Given as goal

abbrev pub invariant-loop-next : goal.invariant-loop-next
invariant-loop-next l =
    PassesIdents (place_of l.fn.cursor) (place_of l.after)
    × StaysIn (place_of l.fn.cursor) (place_of l.after)

abbrev pub decreases-loop-next : goal.decreases-loop-next
decreases-loop-next l = remaining (place_of l.after)
