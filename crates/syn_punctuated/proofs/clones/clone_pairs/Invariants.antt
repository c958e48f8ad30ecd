use Rattle.std.proofs.Common.{◌≡◌, take}
use Rattle.syn_punctuated.proofs.clones.clone_pairs.Given as goal

abbrev pub invariant-loop-i : goal.invariant-loop-i
invariant-loop-i g l = l.copy.items ≡ take l.i l.pairs.items
