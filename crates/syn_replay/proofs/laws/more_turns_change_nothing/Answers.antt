use Rattle.syn_replay.proofs.Views.EnoughTurns.{more_turns_change_nothing}
use Rattle.syn_replay.proofs.laws.more_turns_change_nothing.Goals as goal

pub returns : goal.returns
returns c = more_turns_change_nothing
