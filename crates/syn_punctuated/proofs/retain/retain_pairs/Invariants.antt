use Rattle.std.specs.Fn.{CalledAtMut}
use Rattle.syn_punctuated.proofs.RetainSteps.{Going}
use Rattle.syn_punctuated.proofs.retain.retain_pairs.Given as goal

abbrev pub invariant-loop-i : goal.invariant-loop-i
invariant-loop-i g l =
    Going (CalledAtMut g.F.FnMut) l.initial.f l.initial.pairs.items l.i l.kept l.pairs.items l.f
