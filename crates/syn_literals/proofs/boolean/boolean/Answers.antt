use Rattle.std.proofs.lemmas.Grind.{common_steps}
use Rattle.std.proofs.Common.{arith, ◌≡◌, ◌∙◌, ap, sym, subst, Err, Some}
use Rattle.syn_parse.specs.Parses.{WordParses}
use Rattle.syn_literals.specs.Kinds.{read_bool}
use Rattle.syn_literals.proofs.Bools.{bool_never_fails, no_bool}
use Rattle.syn_literals.proofs.boolean.boolean.Goals as goal

pub returns-in_default : goal.returns-in_default
returns-in_default c = grind (arith, common_steps, no_bool)

pub returns-in_err-span : goal.returns-in_err-span
returns-in_err-span c =
    let s = c.args.input.now in
    let some : read_bool s.place ≡ Some c.in-Some.value =
    ap read_bool (sym c.cursor.ensures) ∙ sym c.next_bool.ensures ∙ c.in-Some.is in
    absurd (bool_never_fails s c.keyword.new.input c.in-Some.value some c.in_err-span.field-0.0
    (subst (λ t. WordParses (λ span. span) t s (Err c.in_err-span.field-0.0) c.keyword.new.input)
    c.text_of.ensures c.in_err-span.ensures))
