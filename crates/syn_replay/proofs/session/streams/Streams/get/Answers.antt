use Rattle.std.proofs.Common.{arith}
use Rattle.syn_replay.proofs.Walk.Streams.{known_there, stream_there, unknown_past}
use Rattle.syn_replay.proofs.session.streams.Streams.get.Goals as goal
use Rattle.std.proofs.lemmas.Grind.{common_steps}

pub returns-then-n-len : goal.returns-then-n-len
returns-then-n-len c = grind (arith, common_steps, known_there, stream_there, c.index.ensures)

pub returns-else-n-len : goal.returns-else-n-len
returns-else-n-len c =
    let v = c.args.self.now.list in unknown_past v.items c.args.n (omega (arith, v.ok.0))
