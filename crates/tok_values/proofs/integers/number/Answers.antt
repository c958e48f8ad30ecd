use Rattle.std.proofs.Common.{◌∙◌, ap, arith}
use Rattle.std.specs.Prelude.{fold}
use Rattle.std.specs.Str.{chars}
use Rattle.tok_values.proofs.Digits.{number_past, step}
use Rattle.tok_values.proofs.Numerals.{number_of_bytes}
use Rattle.tok_values.proofs.integers.number.Goals as goal

pub loop-byte-init : goal.loop-byte-init
loop-byte-init c =
    ap (fold (step c.args.radix) 0) c.as_bytes-rest.ensures.value
    ∙ number_of_bytes c.args.radix c.requires.high c.args.digits.now c.utf8.digits

pub returns-in_default-appended : goal.returns-in_default-appended
returns-in_default-appended c =
    number_past c.args.radix (chars c.args.digits.now) c.loop-byte.rest.now
    c.in-Some.after.now c.loop-byte.value c.in-Some.byte.now
    c.loop-byte.invariant c.in-Some.ensures.cases.0 _ _ (omega (arith, c.requires.low))
    c.in-Some-to_digit.ensures.value c.in_default-appended.ensures
