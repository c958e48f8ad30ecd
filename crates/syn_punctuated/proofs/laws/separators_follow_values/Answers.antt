use Rattle.syn_punctuated.proofs.Trailing.{even_or_bare}
use Rattle.syn_punctuated.proofs.laws.separators_follow_values.Goals as goal

pub returns : goal.returns
returns g c = even_or_bare
