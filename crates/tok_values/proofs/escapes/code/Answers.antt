use Rattle.std.proofs.Common.{◌∙◌, ap, sym}
use Rattle.std.specs.Str.{chars}
use Rattle.tok_values.specs.Escapes.{and_rest, named_char}
use Rattle.tok_values.proofs.Codes.{code_closed, code_open}
use Rattle.tok_values.proofs.escapes.code.Goals as goal

pub returns-in_err-rest-clause-finds : goal.returns-in_err-rest-clause-finds
returns-in_err-rest-clause-finds c =
    let s = c.past_others-after.ensures.skips in
    rw c.from_residual-in_err-rest.ensures
    (code_open (chars c.args.text.now) _ s.0 _ c.in_ok-start.ensures.chars s.1
    c.in_err-rest.ensures.chars)

pub returns-in_err-named_char-clause-finds : goal.returns-in_err-named_char-clause-finds
returns-in_err-named_char-clause-finds c =
    let s = c.past_others-after.ensures.skips in
    let front = c.front_of-digits.ensures.is s.0 s.1.cut in
    rw c.from_residual-in_err-named_char.ensures
    (code_closed (chars c.args.text.now) _ s.0 _ c.in_ok-start.ensures.chars s.1 _
    c.in_ok-rest.ensures.chars
    ∙ ap (λ x. and_rest x (chars c.in_ok-rest.rest.now)) (sym (ap named_char front)
    ∙ sym c.in_err-named_char.ensures))

pub returns-clause-finds : goal.returns-clause-finds
returns-clause-finds c =
    let s = c.past_others-after.ensures.skips in
    let front = c.front_of-digits.ensures.is s.0 s.1.cut in
    code_closed (chars c.args.text.now) _ s.0 _ c.in_ok-start.ensures.chars s.1 _
    c.in_ok-rest.ensures.chars
    ∙ ap (λ x. and_rest x (chars c.in_ok-rest.rest.now)) (sym (ap named_char front)
    ∙ sym c.in_ok-named_char.ensures)
