use Rattle.syn_replay.proofs.Walk.OnForks.{forks_follow_commands}
use Rattle.syn_replay.proofs.laws.forks_follow_commands.Goals as goal

pub returns : goal.returns
returns c = forks_follow_commands
