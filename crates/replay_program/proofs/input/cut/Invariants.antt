use Rattle.replay_program.proofs.Lines.{IsPast, left_len}
use Rattle.replay_program.proofs.input.cut.Given as goal

abbrev pub invariant-loop-left : goal.invariant-loop-left
invariant-loop-left l = IsPast l.text l.left

abbrev pub decreases-loop-left : goal.decreases-loop-left
decreases-loop-left l = left_len l.left
