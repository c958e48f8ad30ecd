use Rattle.std.proofs.Common.{◌∙◌, sym, ap}
use Rattle.std.specs.CStr.{c_string_bytes}
use Rattle.std.specs.Str.{chars}
use Rattle.tok_values.proofs.Suffixed.{c_ended, c_other}
use Rattle.tok_values.proofs.literal.LiteralLiteralExt.cstr_value.Goals as goal

pub returns-in-Some-2-clause-value : goal.returns-in-Some-2-clause-value
returns-in-Some-2-clause-value c =
    c_ended c_string_bytes _ _ c.in-Some-2.bytes.items
    (ap chars (sym c.as_str.ensures) ∙ c.in-Some.ensures.chars)
    (rw c.in-Some-2.is at c.in_ok-bytes.ensures.value) c.ended.result c.ended.ensures

pub returns-in-None-clause-value : goal.returns-in-None-clause-value
returns-in-None-clause-value c =
    c_other _ (chars c.in-Some.string.now)
    (ap chars (sym c.as_str.ensures) ∙ c.in-Some.ensures.chars)
    (rw c.in-None.is at c.in_ok-bytes.ensures.value)
