use Rattle.tok_core.proofs.Lexical.Laws.{forest_once}
use Rattle.tok_core.proofs.laws.forest_once.Goals as goal

pub returns : goal.returns
returns c = forest_once 0
