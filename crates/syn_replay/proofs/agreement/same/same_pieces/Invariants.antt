use Rattle.std.proofs.Common.{◌≡◌, map}
use Rattle.syn_replay.specs.Meanings.{piece_of}
use Rattle.syn_replay.proofs.Comparing.{Undecided}
use Rattle.syn_replay.proofs.agreement.same.same_pieces.Given as goal

abbrev pub invariant-loop-i : goal.invariant-loop-i
invariant-loop-i l = Undecided (λ xs ys. map piece_of xs ≡ map piece_of ys) l.i l.left l.right
