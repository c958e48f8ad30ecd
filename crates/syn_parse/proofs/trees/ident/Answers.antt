use Rattle.std.proofs.Common.{arith, ◌≡◌, ◌∙◌, sym, rules}
use Rattle.std.proofs.lemmas.Grind.{common_steps}
use Rattle.tok_buffer.specs.Cursors.{place_of}
use Rattle.syn_parse.proofs.Names.{ident_keyword, ident_none, ident_value}
use Rattle.syn_parse.proofs.Reading.{reads_stops}
use Rattle.syn_parse.proofs.trees.ident.Goals as goal

pub returns-in_default : goal.returns-in_default
returns-in_default c =
    ident_none c.args.input.now c.refuse.result (rw (← c.cursor.ensures) c.in_default.ensures)
    c.refuse.ensures

pub returns-then-not-accept_as_ident : goal.returns-then-not-accept_as_ident
returns-then-not-accept_as_ident c =
    ident_keyword c.args.input.now c.error.result c.in-Some.ident.now.text c.in-Some.ident.now.span
    (place_of c.in-Some.rest) (rw (← c.cursor.ensures) c.in-Some.ensures)
    (rw (← c.as_str-name.ensures)
    (sym c.accept_as_ident.ensures ∙ c.if-not-accept_as_ident.true))
    (rw (← c.as_str-name.ensures) c.error.ensures.words)

pub returns-in-Some-copied_if_short : goal.returns-in-Some-copied_if_short
returns-in-Some-copied_if_short c =
    let copy : c.in-Some-copied_if_short.short ≡ c.in-Some.ident.now = search rules in
    rw (c.move_to.ensures, copy)
    (ident_value c.args.input.now c.in-Some.ident.now (place_of c.in-Some.rest)
    (rw (← c.cursor.ensures) c.in-Some.ensures) (rw (← c.as_str-name.ensures)
    (sym c.accept_as_ident.ensures ∙ c.if-not-accept_as_ident.false)))

pub returns-in_err-copy : goal.returns-in_err-copy
returns-in_err-copy c = grind (arith, common_steps, reads_stops)

pub returns : goal.returns
returns c =
    let copy : c.in_ok-copy.copy ≡ c.in-Some.ident.now = search rules in
    rw (c.move_to-2.ensures, copy)
    (ident_value c.args.input.now c.in-Some.ident.now (place_of c.in-Some.rest)
    (rw (← c.cursor.ensures) c.in-Some.ensures) (rw (← c.as_str-name.ensures)
    (sym c.accept_as_ident.ensures ∙ c.if-not-accept_as_ident.false)))
