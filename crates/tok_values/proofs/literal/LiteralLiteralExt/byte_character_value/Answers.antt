use Rattle.std.proofs.Common.{◌∙◌, true, sym, ap}
use Rattle.std.specs.Str.{chars}
use Rattle.tok_lexical.specs.Words.{IsSuffix}
use Rattle.tok_values.specs.Strings.{InApostrophes}
use Rattle.tok_values.proofs.literal.LiteralLiteralExt.byte_character_value.Goals as goal
use Rattle.tok_values.proofs.Letters.{after_none}

pub returns-in_err-byte : goal.returns-in_err-byte
returns-in_err-byte c =
    rw c.from_residual-in_err-byte.ensures (after_none 98 (InApostrophes IsSuffix true) _ _
    (ap chars (sym c.as_str.ensures) ∙ c.in_ok-quoted.ensures.chars) c.in_err-byte.ensures.finds)
