use Rattle.std.proofs.Common.{rules}
use Rattle.syn_replay.proofs.Walk.Acceptance.{accepts_when}
use Rattle.syn_replay.proofs.session.written.replay_onto.Goals as goal

pub returns-clause-acceptance : goal.returns-clause-acceptance
returns-clause-acceptance c = search (rules, accepts_when)
