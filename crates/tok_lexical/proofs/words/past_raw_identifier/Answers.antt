use Rattle.std.proofs.Common.{◌∷◌, refl}
use Rattle.tok_lexical.specs.Pieces.{After}
use Rattle.tok_lexical.specs.Words.{IsIdentifier}
use Rattle.tok_lexical.proofs.Longest.{tries_after}
use Rattle.tok_lexical.proofs.words.past_raw_identifier.Goals as goal

pub returns-clause-tries : goal.returns-clause-tries
returns-clause-tries c = tries_after 114 (After 35 IsIdentifier) _ _ _ c.in_ok-name.ensures.chars
    (tries_after 35 IsIdentifier (35 ∷ _) _ _ refl c.past_identifier.ensures.tries)
