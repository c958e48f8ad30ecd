use Rattle.tok_leaves.specs.Laws.{text_of}
use Rattle.tok_leaves.proofs.ByText.{by_text}
use Rattle.tok_leaves.proofs.laws.idents_by_text.Goals as goal

pub returns : goal.returns
returns c = by_text text_of
