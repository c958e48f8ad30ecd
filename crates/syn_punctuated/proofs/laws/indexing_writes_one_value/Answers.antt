use Rattle.syn_punctuated.proofs.WithValue.{writes_with_value}
use Rattle.syn_punctuated.proofs.laws.indexing_writes_one_value.Goals as goal

pub returns : goal.returns
returns g c = writes_with_value
