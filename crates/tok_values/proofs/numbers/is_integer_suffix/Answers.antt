use Rattle.std.proofs.Common.{◌∙◌, sym}
use Rattle.tok_values.proofs.TypedNumbers.{none_named, some_named}
use Rattle.tok_values.proofs.numbers.is_integer_suffix.Goals as goal

pub returns-then-is_empty : goal.returns-then-is_empty
returns-then-is_empty c = none_named _ c.is_empty.result c.is_empty.ensures c.if-is_empty.true

pub returns-else-is_empty : goal.returns-else-is_empty
returns-else-is_empty c =
    some_named _ c.of.result c.is_some.result c.utf8.suffix
    (sym c.is_empty.ensures ∙ c.if-is_empty.false) c.is_some.ensures c.of.ensures
