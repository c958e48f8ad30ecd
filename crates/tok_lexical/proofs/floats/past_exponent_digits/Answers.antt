use Rattle.std.proofs.Common.{◌∙◌, sym}
use Rattle.tok_lexical.specs.Floats.{IsExponentSuffix}
use Rattle.tok_lexical.specs.Numbers.{has_digit}
use Rattle.tok_lexical.proofs.FloatTails.{exponent_suffix, exponent_suffix_stops}
use Rattle.tok_lexical.proofs.Digits.{takes_run, none_run, digit_grows}
use Rattle.tok_lexical.proofs.floats.past_exponent_digits.Goals as goal

pub returns-then-found-clause-tries : goal.returns-then-found-clause-tries
returns-then-found-clause-tries c = takes_run 10 (has_digit 10) IsExponentSuffix
    exponent_suffix_stops _ _ _ c.past_digits-found.ensures.skips.0 _
    c.past_digits-found.ensures.skips.1 (sym c.past_digits-found.ensures.skips.2
    ∙ c.if-found.true) (exponent_suffix _ _ _ c.past_digits-found.ensures.skips.1.stops
    c.past_suffix.ensures.1)

pub returns-else-found-clause-tries : goal.returns-else-found-clause-tries
returns-else-found-clause-tries c = none_run 10 (has_digit 10) IsExponentSuffix _ _
    c.past_digits-found.ensures.skips.0 (digit_grows 10) c.past_digits-found.ensures.skips.1
    (sym c.past_digits-found.ensures.skips.2 ∙ c.if-found.false)
