use Rattle.tok_buffer.specs.Cursors.{place_of}
use Rattle.tok_buffer.specs.Progress.{remaining}
use Rattle.outline.specs.Passing.{Stays}
use Rattle.outline.proofs.scan.past_attributes.Given as goal

abbrev pub invariant-loop-found : goal.invariant-loop-found
invariant-loop-found l = Stays (place_of l.fn.cursor) (place_of l.rest)

abbrev pub decreases-loop-found : goal.decreases-loop-found
decreases-loop-found l = remaining (place_of l.rest)
