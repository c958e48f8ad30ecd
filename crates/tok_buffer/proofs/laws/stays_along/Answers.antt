use Rattle.tok_buffer.proofs.Onwards.{stays_along}
use Rattle.tok_buffer.proofs.laws.stays_along.Goals as goal

pub returns : goal.returns
returns c = stays_along
