use Rattle.tok_values.proofs.FloatKinds.{numbers_alone_have_floats}
use Rattle.tok_values.proofs.laws.numbers_alone_have_floats.Goals as goal

pub returns : goal.returns
returns c = numbers_alone_have_floats
