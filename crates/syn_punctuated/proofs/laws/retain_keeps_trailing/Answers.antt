use Rattle.std.specs.Fn.{CalledAtMut}
use Rattle.syn_punctuated.proofs.Trailing.{retains_trailing_punct}
use Rattle.syn_punctuated.proofs.laws.retain_keeps_trailing.Goals as goal

pub returns : goal.returns
returns g c =
    λ f old new kept some. retains_trailing_punct (CalledAtMut g.F.FnMut) f old new kept some
