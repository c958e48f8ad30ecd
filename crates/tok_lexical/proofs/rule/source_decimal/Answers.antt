use Rattle.std.specs.Prelude.{Some, None}
use Rattle.tok_lexical.proofs.Decimals.{decimal_float, decimal_point, decimal_integer}
use Rattle.tok_lexical.proofs.FloatTails.{tail_point, tail_exponent}
use Rattle.tok_lexical.proofs.rule.source_decimal.Goals as goal

pub returns-in-Some-past_fraction-clause-fits : goal.returns-in-Some-past_fraction-clause-fits
returns-in-Some-past_fraction-clause-fits c = decimal_float _ _ _ c.requires.digits.1
    c.requires.starts c.in-Some-past_fraction.end
    (tail_point _ _ (Some c.in-Some-past_fraction.end) c.in-Some.ensures.chars
    c.in-Some-past_fraction.ensures.tries)

pub returns-in-None-clause-fits : goal.returns-in-None-clause-fits
returns-in-None-clause-fits c = decimal_point _ _ _ c.requires.digits.1 c.requires.starts
    c.in-Some.after (tail_point _ _ None c.in-Some.ensures.chars c.in-None.ensures.tries)
    c.in-Some.ensures.chars

pub returns-in-Some-past_exponent-clause-fits : goal.returns-in-Some-past_exponent-clause-fits
returns-in-Some-past_exponent-clause-fits c = decimal_float _ _ _ c.requires.digits.1
    c.requires.starts c.in-Some-past_exponent.end
    (tail_exponent _ (Some c.in-Some-past_exponent.end) c.in_default.ensures.chars
    c.in-Some-past_exponent.ensures.tries)

pub returns-in-None-past_exponent-clause-fits : goal.returns-in-None-past_exponent-clause-fits
returns-in-None-past_exponent-clause-fits c = decimal_integer _ _ _ c.requires.digits.1
    c.requires.starts _ _ (tail_exponent _ None c.in_default.ensures.chars
    c.in-None-past_exponent.ensures.tries) c.in_default.ensures.chars
    c.past_number_suffix.ensures.1
