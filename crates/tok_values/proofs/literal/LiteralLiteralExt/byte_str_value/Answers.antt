use Rattle.std.proofs.Common.{◌∙◌, true, sym, ap}
use Rattle.std.specs.Str.{chars}
use Rattle.tok_values.specs.Strings.{unit}
use Rattle.tok_values.specs.Suffixed.{IsStringBy}
use Rattle.tok_values.proofs.Suffixed.{after_letter}
use Rattle.tok_values.proofs.literal.LiteralLiteralExt.byte_str_value.Goals as goal

pub returns-in-Some-clause-value : goal.returns-in-Some-clause-value
returns-in-Some-clause-value c =
    after_letter (λ v. v.items) (IsStringBy (unit true)) 98 _ _
    (ap chars (sym c.as_str.ensures) ∙ c.in-Some.ensures.chars) c.byte_string.result
    c.byte_string.ensures.value
