use Rattle.tok_buffer.specs.Cursors.{place_of}
use Rattle.tok_buffer.specs.Progress.{remaining}
use Rattle.outline.specs.Passing.{Stays}
use Rattle.outline.proofs.scan.scan.Given as goal

abbrev pub invariant-tokens : goal.invariant-tokens
invariant-tokens l = Stays (place_of l.fn.cursor) (place_of l.rest)

abbrev pub decreases-tokens : goal.decreases-tokens
decreases-tokens l = remaining (place_of l.rest)
