use Rattle.tok_leaves.specs.Lifetimes.{name_of}
use Rattle.tok_leaves.proofs.ByText.{by_text}
use Rattle.tok_leaves.proofs.laws.lifetimes_by_name.Goals as goal

pub returns : goal.returns
returns c = by_text name_of
