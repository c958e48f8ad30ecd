use Rattle.std.specs.Prelude.{Some, None}
use Rattle.tok_lexical.specs.Floats.{IsExponent}
use Rattle.tok_lexical.proofs.Decimals.{takes_plain}
use Rattle.tok_lexical.proofs.Digits.{tries_digits}
use Rattle.tok_lexical.proofs.FloatTails.{exponent_begins, fraction_scaled, fraction_decimal}
use Rattle.tok_lexical.proofs.floats.past_fraction.Goals as goal

pub returns-in-Some-clause-tries : goal.returns-in-Some-clause-tries
returns-in-Some-clause-tries c =
    let (starts, digits) = c.in_ok-rest.ensures.digits in
    let scaled = tries_digits IsExponent exponent_begins _ _ _ (Some c.in-Some.end)
    digits.1 starts c.in-Some.ensures.tries in
    (_, fraction_scaled _ _ _ scaled.1)

pub returns-in-None-clause-tries : goal.returns-in-None-clause-tries
returns-in-None-clause-tries c =
    let (starts, digits) = c.in_ok-rest.ensures.digits in
    fraction_decimal _ (Some c.past_number_suffix.result)
    (tries_digits IsExponent exponent_begins _ _ _ None digits.1 starts c.in-None.ensures.tries)
    (takes_plain _ _ _ digits.1 starts _ _ c.past_number_suffix.ensures.1)
