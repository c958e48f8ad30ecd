use Rattle.syn_replay.proofs.Walk.Changes.{open_within}
use Rattle.syn_replay.proofs.Walk.Lines.{line_done}
use Rattle.syn_replay.proofs.Walk.Positions.{position_ended, position_open}
use Rattle.syn_replay.proofs.session.streams.Streams.discard.Goals as goal
use Rattle.std.proofs.lemmas.Grind.{common_steps}
use Rattle.std.proofs.Common.{arith}

pub returns : goal.returns
returns c =
    grind (
      arith,
      common_steps,
      line_done,
      position_ended,
      position_open,
      open_within,
      c.is_fork.ensures,
      c.end.ensures,
    )
