use Rattle.std.proofs.Common.{arith}
use Rattle.syn_replay.proofs.Walk.Inside.{falls, look_first, look_on}
use Rattle.syn_replay.proofs.Walk.Streams.{length-state}
use Rattle.syn_replay.proofs.session.streams.Streams.is_inside.Goals as goal
use Rattle.std.proofs.lemmas.Grind.{common_steps}

pub loop-next-init : goal.loop-next-init
loop-next-init c =
    grind (arith, common_steps, look_first, length-state, c.index.ensures, c.requires)

pub loop-next-smaller : goal.loop-next-smaller
loop-next-smaller c = grind (arith, falls, c.args.self.now)

pub loop-next-preserved : goal.loop-next-preserved
loop-next-preserved c = grind (arith, common_steps, look_on)
