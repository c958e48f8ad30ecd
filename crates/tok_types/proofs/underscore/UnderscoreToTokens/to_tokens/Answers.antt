use Rattle.std.proofs.Common.{inr}
use Rattle.tok_types.proofs.Words.{underscore-identifier}
use Rattle.tok_types.proofs.underscore.UnderscoreToTokens.to_tokens.Goals as goal

pub append_word-requires : goal.append_word-requires
append_word-requires c = inr underscore-identifier
