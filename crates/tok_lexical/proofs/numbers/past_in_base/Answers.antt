use Rattle.std.proofs.Common.{◌∙◌, sym}
use Rattle.tok_lexical.specs.Numbers.{has_digit, IsNumberSuffix}
use Rattle.tok_lexical.proofs.Digits.{takes_run, none_run, suffix_stops, digit_grows}
use Rattle.tok_lexical.proofs.numbers.past_in_base.Goals as goal

pub returns-then-found-clause-tries : goal.returns-then-found-clause-tries
returns-then-found-clause-tries c = takes_run c.args.radix (has_digit c.args.radix)
    (IsNumberSuffix c.args.radix) (suffix_stops c.args.radix) _ _ _
    c.past_digits-found.ensures.skips.0 _ c.past_digits-found.ensures.skips.1
    (sym c.past_digits-found.ensures.skips.2 ∙ c.if-found.true) c.past_number_suffix.ensures.1

pub returns-else-found-clause-tries : goal.returns-else-found-clause-tries
returns-else-found-clause-tries c = none_run c.args.radix (has_digit c.args.radix)
    (IsNumberSuffix c.args.radix) _ _ c.past_digits-found.ensures.skips.0
    (digit_grows c.args.radix) c.past_digits-found.ensures.skips.1
    (sym c.past_digits-found.ensures.skips.2 ∙ c.if-found.false)
