use Rattle.tok_lexical.specs.Words.{IsIdentifier}
use Rattle.tok_lexical.proofs.Longest.{tries_after}
use Rattle.tok_lexical.proofs.words.past_plain_lifetime.Goals as goal

pub returns-clause-tries : goal.returns-clause-tries
returns-clause-tries c = tries_after 39 IsIdentifier _ _ _ c.in_ok-word.ensures.chars
    c.past_identifier.ensures.tries
