use Rattle.tok_core.proofs.Lexical.Laws.{refused_once}
use Rattle.tok_core.proofs.laws.refused_once.Goals as goal

pub returns : goal.returns
returns c = refused_once 0
