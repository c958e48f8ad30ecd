use Rattle.std.proofs.Common.{◌≡◌, map}
use Rattle.syn_replay.specs.Meanings.{pieces_in}
use Rattle.syn_replay.proofs.Comparing.{Undecided}
use Rattle.syn_replay.proofs.agreement.same.same_parts.Given as goal

abbrev pub invariant-loop-i : goal.invariant-loop-i
invariant-loop-i l = Undecided (λ xs ys. map pieces_in xs ≡ map pieces_in ys) l.i l.left l.right
