use Rattle.std.proofs.Common.{◌∙◌, ap, sym}
use Rattle.std.specs.Str.{chars}
use Rattle.tok_lexical.specs.Numbers.{has_digit}
use Rattle.tok_values.specs.Numbers.{number}
use Rattle.tok_values.proofs.Digits.{is_integer, no_digit, no_suffix}
use Rattle.tok_values.proofs.integers.read_integer.Goals as goal
use Rattle.tok_values.proofs.integers.read_integer.Goals.{then-not-has_digit-via-then-not-has_digit}
use Rattle.tok_values.proofs.integers.read_integer.Goals.{then-not-has_digit-via-else-not-has_digit+then-not-is_number_suffix}

pub returns-then-not-has_digit : goal.returns-then-not-has_digit
returns-then-not-has_digit c =
    let s = c.past_digits-suffix.ensures in
    let front = c.front_of-digits.ensures.is s.0 s.1.cut in
    elim c.then-not-has_digit.branch [
      | then-not-has_digit-via-then-not-has_digit w ↦
          no_digit (chars c.args.text.now) s.0 _ _ _ c.base_of-radix.ensures.base
          c.base_of-radix.ensures.rest s.1 (sym (ap (has_digit c.base_of-radix.result.0) front)
          ∙ sym c.has_digit.ensures ∙ w.if-not-has_digit.true)
      | then-not-has_digit-via-else-not-has_digit+then-not-is_number_suffix w ↦
          no_suffix (chars c.args.text.now) s.0 _ _ _ c.base_of-radix.ensures.base
          c.base_of-radix.ensures.rest s.1 w.if-not-is_number_suffix.ensures
    ]

pub returns-in-None : goal.returns-in-None
returns-in-None c =
    let s = c.past_digits-suffix.ensures in
    let front = c.front_of-digits.ensures.is s.0 s.1.cut in
    let radix = c.base_of-radix.result.0 in (
      number radix s.0,
      chars c.past_digits-suffix.result.now,
      is_integer (chars c.args.text.now) s.0 _ _ radix c.base_of-radix.ensures.base
          c.base_of-radix.ensures.rest s.1 (sym c.starts_digit.ensures
          ∙ c.if-not-starts_digit.false) (ap (has_digit radix) (sym front) ∙ sym c.has_digit.ensures
          ∙ c.if-not-has_digit.false) c.if-not-is_number_suffix.ensures,
      rw (← front) c.in-None.ensures,
    )
