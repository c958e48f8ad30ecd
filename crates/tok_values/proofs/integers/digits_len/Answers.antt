use Rattle.std.proofs.Common.{◌≡◌, true, arith, get_or, rules}
use Rattle.tok_lexical.specs.Numbers.{is_digit_or_underscore}
use Rattle.tok_values.proofs.Numerals.{one_passes}
use Rattle.tok_values.proofs.integers.digits_len.Goals as goal
use Rattle.tok_values.proofs.integers.digits_len.Goals.{then-is_digit, else-is_digit}

pub loop-end-preserved : goal.loop-end-preserved
loop-end-preserved c =
    let here : is_digit_or_underscore c.args.radix (get_or c.args.bytes.now c.loop-end.end 0) ≡ true
    = elim c.if-is_digit.branch [
      | then-is_digit w ↦ search rules
      | else-is_digit w ↦ search rules
    ] in
    record {
      within = omega arith;
      pass = one_passes (is_digit_or_underscore c.args.radix) c.args.bytes.now c.loop-end.end
          c.loop-end.invariant.pass here;
    }
