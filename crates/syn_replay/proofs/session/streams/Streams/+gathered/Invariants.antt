use Rattle.std.proofs.Common.{◌-◌, length}
use Rattle.syn_replay.specs.Session.Stream.{state_of_list}
use Rattle.syn_replay.proofs.Walk.Left.{Gathering}
use Rattle.syn_replay.proofs.Walk.Links.{above_listed}
use Rattle.syn_replay.proofs.session.streams.Streams.+gathered.Given as goal

abbrev pub decreases-gathered : goal.decreases-gathered
decreases-gathered l = length l.self.now.list.items - l.n

abbrev pub invariant-loop-index : goal.invariant-loop-index
invariant-loop-index l =
    let xs = l.self.list.items in
    Gathering (state_of_list xs) (above_listed xs l.self.listed) l.n l.input l.index
