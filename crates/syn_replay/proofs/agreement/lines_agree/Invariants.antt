use Rattle.std.proofs.Common.{map}
use Rattle.syn_replay.specs.Agree.{LinesAgree}
use Rattle.syn_replay.specs.Meanings.{line_of}
use Rattle.syn_replay.proofs.Comparing.{Undecided}
use Rattle.syn_replay.proofs.agreement.lines_agree.Given as goal

abbrev pub invariant-loop-i : goal.invariant-loop-i
invariant-loop-i l =
    Undecided (λ xs ys. LinesAgree (map line_of xs) (map line_of ys)) l.i l.left l.right
