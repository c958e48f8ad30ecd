use Rattle.tok_values.proofs.MadeIntegers.{integers_are_read}
use Rattle.tok_values.proofs.laws.integers_are_read.Goals as goal

pub returns : goal.returns
returns c = integers_are_read
