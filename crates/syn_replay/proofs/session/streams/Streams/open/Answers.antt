use Rattle.syn_replay.proofs.Walk.Lines.{line_misused}
use Rattle.syn_replay.proofs.session.streams.Streams.open.Goals as goal
use Rattle.std.proofs.lemmas.Grind.{common_steps}
use Rattle.std.proofs.Common.{arith}

pub returns-in-None : goal.returns-in-None
returns-in-None c a alone =
    grind (
      arith,
      common_steps,
      line_misused,
      c.no_stream.ensures.answer,
      c.no_stream.ensures.position,
    )
