use Rattle.std.proofs.Common.{arith}
use Rattle.tok_lexical.specs.Numbers.{is_digit_or_underscore}
use Rattle.tok_lexical.proofs.Digits.{digits_ascii_test, digit_first}
use Rattle.tok_lexical.proofs.Longest.{skips_after}
use Rattle.tok_lexical.proofs.numbers.past_decimals.Goals as goal

pub past_rare_run-requires : goal.past_rare_run-requires
past_rare_run-requires c = record { ascii = digits_ascii_test 10 (omega arith) }

pub returns : goal.returns
returns c =
    skips_after (is_digit_or_underscore 10) _ _ _ _ c.in-Some.ensures.chars
    (digit_first _ _ _ c.in-Some.ensures.chars c.requires) c.past_rare_run.ensures.skips
