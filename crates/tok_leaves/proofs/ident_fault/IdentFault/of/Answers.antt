use Rattle.std.proofs.Common.{◌∙◌, ◌∷◌, [], ap, refl, sym}
use Rattle.tok_leaves.proofs.IdentFaults.{begun, unbegun}
use Rattle.tok_leaves.proofs.ident_fault.IdentFault.of.Goals as goal

pub front_fault-requires : goal.front_fault-requires
front_fault-requires c =
    let (front, s) = c.past_continues.ensures in
    (c.in-Some.first ∷ front, c.in-Some.ensures.chars ∙ ap (λ w. c.in-Some.first ∷ w) s.cut)

pub returns-then-is_identifier_start : goal.returns-then-is_identifier_start
returns-then-is_identifier_start c =
    let (found, cut, is) = begun _ _ _ c.in-Some.first c.in-Some.ensures.chars
    (sym c.is_ascii_digit.ensures.value ∙ c.if-is_ascii_digit.false)
    (sym c.is_identifier_start.ensures ∙ c.if-is_identifier_start.true)
    (sym c.is_plain.ensures ∙ c.if-not-is_plain.false) c.past_continues.ensures in
    c.front_fault.ensures found cut ∙ sym is

pub returns-else-is_identifier_start : goal.returns-else-is_identifier_start
returns-else-is_identifier_start c =
    c.front_fault-else-is_identifier_start.ensures [] refl
    ∙ sym (unbegun _ _ c.in-Some.first c.in-Some.ensures.chars
    (sym c.is_ascii_digit.ensures.value ∙ c.if-is_ascii_digit.false)
    (sym c.is_identifier_start.ensures ∙ c.if-is_identifier_start.false)
    (sym c.is_plain.ensures ∙ c.if-not-is_plain.false))
