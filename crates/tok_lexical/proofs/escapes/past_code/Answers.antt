use Rattle.std.proofs.Common.{◌∙◌, ◌∷◌, sym}
use Rattle.tok_lexical.proofs.Codes.{code_open, code_found, code_unnamed, code_front}
use Rattle.tok_lexical.proofs.escapes.past_code.Goals as goal

pub returns-in_err-rest-clause-finds : goal.returns-in_err-rest-clause-finds
returns-in_err-rest-clause-finds c = rw c.from_residual-in_err-rest.ensures
    (code_open _ _ _ _ _ c.in_ok-first.first c.in_ok-start.ensures.chars
    c.in_ok-first.ensures.chars c.past_digits.ensures.skips.1 c.in_err-rest.ensures.chars)

pub front_of-requires : goal.front_of-requires
front_of-requires c = (
  c.in_ok-first.first ∷ c.past_digits.ensures.skips.0,
  code_front _ _ _ _ c.in_ok-first.first c.in_ok-first.ensures.chars
      c.past_digits.ensures.skips.1,
)

pub returns-then-names_char-clause-finds : goal.returns-then-names_char-clause-finds
returns-then-names_char-clause-finds c =
    let s = c.past_digits.ensures.skips.1 in
    let e = c.front_of.ensures.is _
    (code_front _ _ _ _ c.in_ok-first.first c.in_ok-first.ensures.chars s) in
    code_found _ _ _ _ _ _ c.in_ok-first.first c.in_ok-start.ensures.chars
    c.in_ok-first.ensures.chars (sym c.is_digit.ensures.value ∙ c.if-not-is_digit.false) s
    c.in_ok-rest.ensures.chars (rw e at c.if-names_char.ensures)

pub returns-else-names_char-clause-finds : goal.returns-else-names_char-clause-finds
returns-else-names_char-clause-finds c =
    let s = c.past_digits.ensures.skips.1 in
    let e = c.front_of.ensures.is _
    (code_front _ _ _ _ c.in_ok-first.first c.in_ok-first.ensures.chars s) in
    code_unnamed _ _ _ _ _ _ c.in_ok-first.first c.in_ok-start.ensures.chars
    c.in_ok-first.ensures.chars s e c.if-names_char.ensures
