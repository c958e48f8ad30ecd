use Rattle.tok_buffer.specs.Cursors.{place_of}
use Rattle.tok_buffer.specs.Progress.{remaining}
use Rattle.outline.proofs.attribute.read_path.Given as goal

abbrev pub decreases-loop-name : goal.decreases-loop-name
decreases-loop-name l = remaining (place_of l.rest)
