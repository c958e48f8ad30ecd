use Rattle.std.proofs.Common.{◌∙◌, ap, sym, rules}
use Rattle.tok_buffer.specs.Cursors.{place_of}
use Rattle.tok_types.specs.Texts.{accept_as_ident}
use Rattle.tok_types.proofs.Identifiers.{word_wanted}
use Rattle.tok_types.proofs.Seen.{ident_seen}
use Rattle.tok_types.proofs.tree_tokens.IdentToken.peek.Goals as goal

pub returns-in-None-clause-sees : goal.returns-in-None-clause-sees
returns-in-None-clause-sees c = ident_seen (place_of c.args.cursor) _ (search rules)

pub returns-in-Some-clause-peeks : goal.returns-in-Some-clause-peeks
returns-in-Some-clause-peeks c =
    let i = c.in-Some.ident.now in
    let wanted =
    word_wanted accept_as_ident (place_of c.args.cursor) i.text i.span
    (place_of c.in-Some.field-0-1) c.in-Some.ensures in
    cc

pub returns-in-Some-clause-sees : goal.returns-in-Some-clause-sees
returns-in-Some-clause-sees c =
    let i = c.in-Some.ident.now in
    ident_seen (place_of c.args.cursor) _ (c.accept_as_ident.ensures
    ∙ ap accept_as_ident c.as_str.ensures
    ∙ sym (word_wanted accept_as_ident (place_of c.args.cursor) i.text i.span
    (place_of c.in-Some.field-0-1) c.in-Some.ensures))
