use Rattle.syn_replay.specs.Session.State.{is_inside}
use Rattle.syn_replay.specs.Session.Streams.{state_of}
use Rattle.syn_replay.proofs.Walk.Inside.{LeftToLook, above}
use Rattle.syn_replay.proofs.session.streams.Streams.is_inside.Given as goal

abbrev pub invariant-loop-next : goal.invariant-loop-next
invariant-loop-next l =
    LeftToLook l.self.list.items l.outer l.next (is_inside (state_of l.self) l.outer l.inner)

abbrev pub decreases-loop-next : goal.decreases-loop-next
decreases-loop-next l = above l.next
