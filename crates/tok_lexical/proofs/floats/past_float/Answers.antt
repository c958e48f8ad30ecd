use Rattle.tok_lexical.specs.Floats.{IsFloatTail}
use Rattle.tok_lexical.proofs.FloatTails.{tail_begins}
use Rattle.tok_lexical.proofs.Digits.{tries_digits}
use Rattle.tok_lexical.proofs.floats.past_float.Goals as goal

pub returns-clause-tries : goal.returns-clause-tries
returns-clause-tries c = tries_digits IsFloatTail tail_begins _ _ _ _
    c.in_ok-rest.ensures.digits.1.1 c.in_ok-rest.ensures.digits.0
    c.past_float_tail.ensures.tries
