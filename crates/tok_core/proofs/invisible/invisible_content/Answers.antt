use Rattle.std.proofs.Common.{ap}
use Rattle.tok_leaves.specs.Spans.{bounds_span}
use Rattle.tok_core.specs.Seen.{tree_of}
use Rattle.tok_core.proofs.invisible.invisible_content.Goals as goal

pub returns-in-None : goal.returns-in-None
returns-in-None c =
    let g = c.in-Group.group in (
      bounds_span g.bounds,
      cc (ap tree_of c.in-Group.is, c.delimiter.ensures, c.in-None.is, c.stream.ensures),
    )
