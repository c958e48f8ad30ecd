use Rattle.tok_values.proofs.Shown.{doc_comments_are_read}
use Rattle.tok_values.proofs.laws.doc_comments_are_read.Goals as goal

pub returns : goal.returns
returns c = doc_comments_are_read
