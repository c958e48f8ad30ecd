use Rattle.tok_buffer.specs.Cursors.{place_of}
use Rattle.tok_buffer.specs.Progress.{remaining}
use Rattle.tok_buffer.specs.Trees.{PassesTrees}
use Rattle.tok_buffer.proofs.cursor.Cursor.scope_end.Given as goal

abbrev pub invariant-loop-after : goal.invariant-loop-after
invariant-loop-after l = PassesTrees (place_of l.fn.self) (place_of l.rest)

abbrev pub decreases-loop-after : goal.decreases-loop-after
decreases-loop-after l = remaining (place_of l.rest)
