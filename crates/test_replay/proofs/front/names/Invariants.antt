use Rattle.syn_tokens.specs.Progress.{remaining}
use Rattle.test_replay.proofs.front.names.Given as goal

abbrev pub decreases-loop-names : goal.decreases-loop-names
decreases-loop-names l = remaining l.input.place
