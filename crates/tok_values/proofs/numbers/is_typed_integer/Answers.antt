use Rattle.std.specs.Str.{chars}
use Rattle.tok_values.proofs.TypedNumbers.{integer_typed}
use Rattle.tok_values.proofs.numbers.is_typed_integer.Goals as goal

pub returns-in-Ok : goal.returns-in-Ok
returns-in-Ok c =
    integer_typed (chars c.args.text.now) _ _ c.in-Ok.ensures c.is_integer_suffix.result
    (rw c.literal_suffix.ensures at c.is_integer_suffix.ensures)

pub returns-in-Err-TooLarge : goal.returns-in-Err-TooLarge
returns-in-Err-TooLarge c =
    let (value, suffix, integer, large) =
    rw c.in-Err-TooLarge.field-0-is at c.in-Err-TooLarge.ensures in
    integer_typed (chars c.args.text.now) value suffix integer
    c.is_integer_suffix-in-Err-TooLarge.result
    (rw c.literal_suffix-in-Err-TooLarge.ensures at c.is_integer_suffix-in-Err-TooLarge.ensures)

pub returns-in-Err-NotInteger : goal.returns-in-Err-NotInteger
returns-in-Err-NotInteger c =
    let none = rw c.in-Err-NotInteger.field-0-is at c.in-Err-NotInteger.ensures in
    λ (value, suffix, integer, type). none value suffix integer
