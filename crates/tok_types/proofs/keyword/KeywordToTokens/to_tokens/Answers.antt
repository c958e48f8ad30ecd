use Rattle.tok_types.proofs.Words.{keyword-suffix}
use Rattle.tok_types.proofs.keyword.KeywordToTokens.to_tokens.Goals as goal

pub append_word-requires : goal.append_word-requires
append_word-requires g c = rw c.keyword_text.ensures (keyword-suffix g.row.K)
