use Rattle.std.proofs.Common.{◌∙◌, ap, sym}
use Rattle.std.specs.Str.{chars}
use Rattle.tok_values.specs.RawStrings.{IsRawStringValue}
use Rattle.tok_values.proofs.literal.LiteralLiteralExt.raw_bytes_value.Goals as goal
use Rattle.tok_values.proofs.Letters.{after_none}

pub returns-in_err-raw : goal.returns-in_err-raw
returns-in_err-raw c =
    rw c.from_residual.ensures
    (λ value h. c.in_err-raw.ensures.chars h.0 (ap chars c.as_str.ensures ∙ h.1))

pub returns-in_err-value : goal.returns-in_err-value
returns-in_err-value c =
    rw c.from_residual-in_err-value.ensures (after_none 98 IsRawStringValue _ _
    (ap chars (sym c.as_str.ensures) ∙ c.in_ok-raw.ensures.chars) c.in_err-value.ensures.value)

pub returns : goal.returns
returns c = (
  chars c.in_ok-raw.raw.now,
  ap chars (sym c.as_str.ensures) ∙ c.in_ok-raw.ensures.chars,
  rw c.as_bytes.ensures.value c.in_ok-value.ensures.value,
)
