use Rattle.visible_replay.proofs.Deciding.{differ_pruned}
use Rattle.visible_replay.proofs.sessions.visible_replay_both.Goals as goal

pub returns-clause-left : goal.returns-clause-left
returns-clause-left c = rw (← c.in_ok-first.ensures.prunes) c.replay_both.ensures.left

pub returns-clause-right : goal.returns-clause-right
returns-clause-right c = rw (← c.in_ok-second.ensures.prunes) c.replay_both.ensures.right

pub returns-clause-agree : goal.returns-clause-agree
returns-clause-agree c same transparent =
    c.replay_both.ensures.agree
    (rw (c.in_ok-first.ensures.prunes, c.in_ok-second.ensures.prunes)
    (differ_pruned c.args.left c.args.right same)) transparent
