use Rattle.tok_lexical.proofs.FloatTails.{tail_point, tail_exponent}
use Rattle.tok_lexical.proofs.floats.past_float_tail.Goals as goal

pub returns-in-Some-clause-tries : goal.returns-in-Some-clause-tries
returns-in-Some-clause-tries c = tail_point _ _ _ c.in-Some.ensures.chars
    c.past_fraction.ensures.tries

pub returns-in-None-clause-tries : goal.returns-in-None-clause-tries
returns-in-None-clause-tries c = tail_exponent _ _ c.in-None.ensures.chars
    c.past_exponent.ensures.tries
