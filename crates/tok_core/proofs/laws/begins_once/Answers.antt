use Rattle.tok_lexical.proofs.Sources.{begins_once}
use Rattle.tok_core.proofs.laws.begins_once.Goals as goal

pub returns : goal.returns
returns c = λ text one other first second. begins_once first second
