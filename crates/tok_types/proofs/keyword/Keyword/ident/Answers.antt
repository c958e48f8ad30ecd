use Rattle.tok_types.proofs.Words.{keyword-identifier}
use Rattle.tok_types.proofs.keyword.Keyword.ident.Goals as goal

pub identifier-requires : goal.identifier-requires
identifier-requires g c = rw c.keyword_text.ensures (keyword-identifier g.row.K c.requires)
