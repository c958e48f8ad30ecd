use Rattle.visible_replay.proofs.sessions.visible_replay.Goals as goal

pub returns-clause-walk : goal.returns-clause-walk
returns-clause-walk c = rw (← c.in_ok-filled.ensures.prunes) c.replay.ensures.walk

pub returns-clause-acceptance : goal.returns-clause-acceptance
returns-clause-acceptance c = rw (← c.in_ok-filled.ensures.prunes) c.replay.ensures.acceptance
