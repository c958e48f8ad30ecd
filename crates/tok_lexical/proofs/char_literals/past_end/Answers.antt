use Rattle.tok_lexical.specs.Words.{IsSuffix}
use Rattle.tok_lexical.proofs.Units.{takes_after}
use Rattle.tok_lexical.proofs.char_literals.past_end.Goals as goal

pub returns-clause-tries : goal.returns-clause-tries
returns-clause-tries c = takes_after 39 IsSuffix _ _ _ _ c.in_ok-rest.ensures.chars
    c.past_suffix.ensures.1
