use Rattle.std.proofs.Common.{◌∙◌, true, sym, ap}
use Rattle.std.specs.Str.{chars}
use Rattle.tok_values.specs.Strings.{InApostrophes, IsNothing}
use Rattle.tok_values.proofs.literal.LiteralLiteralExt.byte_value.Goals as goal
use Rattle.tok_values.proofs.Letters.{after_none}

pub returns-in_err-c : goal.returns-in_err-c
returns-in_err-c c =
    rw c.from_residual-in_err-c.ensures (after_none 98 (InApostrophes IsNothing true) _ _
    (ap chars (sym c.as_str.ensures) ∙ c.in_ok-quoted.ensures.chars) c.in_err-c.ensures.finds)
