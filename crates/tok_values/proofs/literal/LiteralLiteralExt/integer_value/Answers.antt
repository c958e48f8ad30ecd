use Rattle.std.specs.Str.{chars}
use Rattle.tok_values.proofs.Values.{integer_found}
use Rattle.tok_values.proofs.literal.LiteralLiteralExt.integer_value.Goals as goal

pub returns-clause-value : goal.returns-clause-value
returns-clause-value c =
    rw c.as_str.ensures at (integer_found (chars c.as_str.result.now) c.read_integer.result
    c.read_integer.ensures)
