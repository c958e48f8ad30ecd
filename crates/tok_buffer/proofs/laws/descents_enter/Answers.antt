use Rattle.tok_buffer.proofs.Entered.{descents_enter}
use Rattle.tok_buffer.proofs.laws.descents_enter.Goals as goal

pub returns : goal.returns
returns c = descents_enter
