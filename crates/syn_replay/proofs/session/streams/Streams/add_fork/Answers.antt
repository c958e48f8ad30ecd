use Rattle.syn_replay.proofs.Walk.Links.{pushed_listed, pushed_not_empty}
use Rattle.syn_replay.proofs.session.streams.Streams.add_fork.Goals as goal
use Rattle.std.proofs.Common.{rules}

pub invariant_of-self : goal.invariant_of-self
invariant_of-self c = search (rules, pushed_not_empty, pushed_listed)
