use Rattle.tok_buffer.proofs.Onwards.{skips_go_on}
use Rattle.tok_buffer.proofs.laws.skips_go_on.Goals as goal

pub returns : goal.returns
returns c = skips_go_on
