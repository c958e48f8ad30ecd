use Rattle.std.proofs.Common.{◌∙◌, sym}
use Rattle.tok_values.proofs.Suffixed.{no_suffix, some_suffix}
use Rattle.tok_values.proofs.suffixes.is_suffix.Goals as goal

pub returns-then-is_empty : goal.returns-then-is_empty
returns-then-is_empty c = no_suffix _ c.is_empty.result c.is_empty.ensures c.if-is_empty.true

pub returns-else-is_empty : goal.returns-else-is_empty
returns-else-is_empty c =
    some_suffix _ c.is_identifier.result c.utf8.text (sym c.is_empty.ensures ∙ c.if-is_empty.false)
    c.is_identifier.ensures
