use Rattle.tok_buffer.proofs.Onwards.{moves_stay}
use Rattle.tok_buffer.proofs.laws.moves_stay.Goals as goal

pub returns : goal.returns
returns c = moves_stay
