use Rattle.std.proofs.Common.{length-set}
use Rattle.syn_replay.proofs.Walk.Links.{listed_set}
use Rattle.syn_replay.proofs.Walk.Streams.{changed_there, length-state}
use Rattle.syn_replay.proofs.session.streams.Streams.move_to.Goals as goal
use Rattle.std.proofs.Common.{rules}

pub invariant_of-self : goal.invariant_of-self
invariant_of-self c = search (rules, length-set, listed_set, length-state)

pub returns : goal.returns
returns c = search (rules, changed_there, length-state)
