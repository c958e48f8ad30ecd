use Rattle.tok_core.proofs.Lexical.Visible.{all_visible}
use Rattle.tok_core.proofs.laws.read_visibly.Goals as goal

pub returns : goal.returns
returns c = all_visible
