use Rattle.tok_lexical.specs.Pieces.{After}
use Rattle.tok_lexical.specs.Raw.{IsRaw}
use Rattle.tok_lexical.proofs.Longest.{tries_after}
use Rattle.tok_lexical.proofs.raw.past_raw_by.Goals as goal

pub returns-clause-tries : goal.returns-clause-tries
returns-clause-tries c = tries_after _ (After 114 IsRaw) _ _ _ c.in_ok-rest.ensures.chars
    c.past_raw_text.ensures.tries
