use Rattle.tok_buffer.specs.Cursors.{place_of}
use Rattle.tok_buffer.specs.Progress.{StaysIn, remaining}
use Rattle.example_callers.specs.Loops.{PassesOthers}
use Rattle.example_callers.proofs.loops.past_sign.Given as goal

abbrev pub invariant-loop-tree : goal.invariant-loop-tree
invariant-loop-tree l =
    PassesOthers (place_of l.fn.cursor) (place_of l.rest)
    × StaysIn (place_of l.fn.cursor) (place_of l.rest)

abbrev pub decreases-loop-tree : goal.decreases-loop-tree
decreases-loop-tree l = remaining (place_of l.rest)
