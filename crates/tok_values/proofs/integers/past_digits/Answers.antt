use Rattle.tok_lexical.specs.Numbers.{is_digit_or_underscore}
use Rattle.tok_lexical.proofs.Runs.{run_boundary, skips_run}
use Rattle.tok_lexical.proofs.Digits.{digits_ascii_test}
use Rattle.tok_values.proofs.integers.past_digits.Goals as goal

pub split_at-requires : goal.split_at-requires
split_at-requires c =
    run_boundary (is_digit_or_underscore c.args.radix)
    (digits_ascii_test c.args.radix c.requires.high) _ _ c.utf8.text
    (rw c.as_bytes.ensures.value at c.digits_len.ensures)

pub returns : goal.returns
returns c =
    let parts = c.split_at.ensures in (
      _,
      skips_run (is_digit_or_underscore c.args.radix)
          (digits_ascii_test c.args.radix c.requires.high) _ _ _ _ c.utf8.text parts.front
          parts.back parts.front_len parts.back_len
          (rw c.as_bytes.ensures.value at c.digits_len.ensures),
    )
