use Rattle.tok_buffer.specs.Cursors.{place_of}
use Rattle.tok_buffer.specs.Progress.{remaining}
use Rattle.std.proofs.Common.{◌≤◌}
use Rattle.outline.proofs.find.+find.Given as goal

abbrev pub decreases-find : goal.decreases-find
decreases-find l = remaining (place_of l.cursor)

abbrev pub invariant-loop-attribute : goal.invariant-loop-attribute
invariant-loop-attribute l = remaining (place_of l.rest) ≤ remaining (place_of l.fn.cursor)

abbrev pub decreases-loop-attribute : goal.decreases-loop-attribute
decreases-loop-attribute l = remaining (place_of l.rest)
