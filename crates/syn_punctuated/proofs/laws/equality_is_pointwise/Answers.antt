use Rattle.syn_punctuated.proofs.Equality.{equal_by_lists}
use Rattle.syn_punctuated.proofs.laws.equality_is_pointwise.Goals as goal

pub returns : goal.returns
returns g c =
    λ left right. equal_by_lists g.T.PartialEq.eq g.P.PartialEq.eq left.inner.items
    right.inner.items left.last right.last
