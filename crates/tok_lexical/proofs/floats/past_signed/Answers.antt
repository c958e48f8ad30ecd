use Rattle.tok_lexical.proofs.FloatTails.{signed_plus, signed_minus, signed_none}
use Rattle.tok_lexical.proofs.floats.past_signed.Goals as goal

pub returns-in-Some-clause-tries : goal.returns-in-Some-clause-tries
returns-in-Some-clause-tries c = signed_plus _ _ _ c.in-Some.ensures.chars
    c.past_exponent_digits.ensures.tries

pub returns-in-Some-past_char-clause-tries : goal.returns-in-Some-past_char-clause-tries
returns-in-Some-past_char-clause-tries c = signed_minus _ _ _ c.in-Some-past_char.ensures.chars
    c.past_exponent_digits-in-Some-past_char.ensures.tries

pub returns-clause-tries : goal.returns-clause-tries
returns-clause-tries c = signed_none _ _ c.in_default.ensures.chars
    c.in_default-past_char.ensures.chars c.past_exponent_digits-2.ensures.tries
