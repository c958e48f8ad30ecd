use Rattle.std.proofs.Common.{◌∙◌, sym}
use Rattle.tok_lexical.proofs.Codes.{hex_found}
use Rattle.tok_lexical.proofs.escapes.past_hex.Goals as goal

pub returns-then-is_digit-clause-finds : goal.returns-then-is_digit-clause-finds
returns-then-is_digit-clause-finds c = hex_found _ c.in_ok-high.high c.in_ok-low.low _ _ _
    c.in_ok-high.ensures.chars c.in_ok-low.ensures.chars (sym c.is_digit.ensures.value
    ∙ c.if-not-is_digit.false) (sym c.is_digit-2.ensures.value ∙ c.if-is_digit.true)
