use Rattle.tok_core.proofs.Lexical.Explained.{explained_once}
use Rattle.tok_core.proofs.laws.errors_explained_once.Goals as goal

pub returns : goal.returns
returns c = explained_once
