use Rattle.std.proofs.Common.{◌≡◌, ◌∙◌, sym, rules}
use Rattle.tok_buffer.specs.Cursors.{place_of}
use Rattle.syn_parse.proofs.Names.{lifetime_keyword, lifetime_value, no_lifetime}
use Rattle.syn_parse.proofs.trees.lifetime.Goals as goal

pub returns-in_default : goal.returns-in_default
returns-in_default c =
    no_lifetime c.args.input.now c.refuse.result (rw (← c.cursor.ensures) c.in_default.ensures)
    c.refuse.ensures

pub returns-then-not-accept_as_lifetime : goal.returns-then-not-accept_as_lifetime
returns-then-not-accept_as_lifetime c =
    let i = c.in-Some.lifetime.ident.now in
    lifetime_keyword c.args.input.now c.error.result i.text c.in-Some.lifetime.apostrophe i.span
    (place_of c.in-Some.rest) (rw (← c.cursor.ensures) c.in-Some.ensures)
    (rw (← c.as_str-name.ensures)
    (sym c.accept_as_lifetime.ensures ∙ c.if-not-accept_as_lifetime.true))
    (rw (← c.as_str-name.ensures) c.error.ensures.words)

pub returns-in-Some-copied_if_short : goal.returns-in-Some-copied_if_short
returns-in-Some-copied_if_short c =
    let i = c.in-Some.lifetime.ident.now in
    let copy : c.in-Some-copied_if_short.ident ≡ i = search rules in
    rw (c.move_to.ensures, copy) (lifetime_value c.args.input.now
    (record { apostrophe = c.in-Some.lifetime.apostrophe; ident = i })
    (place_of c.in-Some.rest) (rw (← c.cursor.ensures) c.in-Some.ensures)
    (rw (← c.as_str-name.ensures)
    (sym c.accept_as_lifetime.ensures ∙ c.if-not-accept_as_lifetime.false)))

pub returns : goal.returns
returns c =
    let i = c.in-Some.lifetime.ident.now in
    let copy : c.in_ok-ident.ident ≡ i = search rules in
    rw (c.move_to-2.ensures, copy) (lifetime_value c.args.input.now
    (record { apostrophe = c.in-Some.lifetime.apostrophe; ident = i })
    (place_of c.in-Some.rest) (rw (← c.cursor.ensures) c.in-Some.ensures)
    (rw (← c.as_str-name.ensures)
    (sym c.accept_as_lifetime.ensures ∙ c.if-not-accept_as_lifetime.false)))
