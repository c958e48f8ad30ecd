use Rattle.tok_lexical.specs.Words.{IsName}
use Rattle.tok_lexical.proofs.Longest.{tries_after}
use Rattle.tok_lexical.proofs.words.past_lifetime.Goals as goal

pub returns-clause-tries : goal.returns-clause-tries
returns-clause-tries c = tries_after 39 IsName _ _ _ c.in_ok-name.ensures.chars
    c.past_name.ensures.tries
