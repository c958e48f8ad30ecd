use Rattle.tok_core.proofs.Lexical.Laws.{never_both}
use Rattle.tok_core.proofs.laws.never_both.Goals as goal

pub returns : goal.returns
returns c = never_both 0
