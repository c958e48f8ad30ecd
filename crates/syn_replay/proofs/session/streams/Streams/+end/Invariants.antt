use Rattle.std.proofs.Common.{◌-◌, length}
use Rattle.syn_replay.specs.Session.Stream.{state_of_list}
use Rattle.syn_replay.proofs.Walk.Ends.{EndsOn}
use Rattle.syn_replay.proofs.session.streams.Streams.+end.Given as goal

abbrev pub decreases-end : goal.decreases-end
decreases-end l = length l.self.now.list.items - l.k

abbrev pub invariant-loop-index : goal.invariant-loop-index
invariant-loop-index l =
    EndsOn (state_of_list l.fn.self.list.items) l.k (state_of_list l.self.list.items) l.index
