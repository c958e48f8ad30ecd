use Rattle.std.proofs.Common.{rules, [], refl}
use Rattle.tok_leaves.specs.Leaves.{ident, literal, punct}
use Rattle.tok_entries.proofs.Leaves.{fits, no_ident, no_literal, no_punct}
use Rattle.tok_entries.proofs.intake.leaf.read_leaf.Goals as goal
use Rattle.tok_entries.proofs.intake.leaf.read_leaf.Goals.{in-1+in_ok-added-in-1, in-0+in_ok-added-in-0, in-2+in_ok-added-in-2}

pub returns-else-added-clause-blames : goal.returns-else-added-clause-blames
returns-else-added-clause-blames g c =
    let at = c.args.begin in
    let e = c.args.entry.now in
    let bs = c.args.rest.now in
    let p = c.in-Some in
    elim c.match-entry.branch [
      | in-1+in_ok-added-in-1 w ↦ (
        refl,
        (
          fits at e bs p.text.now p.behind.now p.spacing p.span p.ensures.parts
              (punct 0 p.spacing p.span) (search rules) refl refl p.ensures.utf8.0,
          no_punct at e bs p.text.now p.behind.now p.spacing p.span p.ensures.parts (search rules)
              (search rules),
        ),
      )
      | in-0+in_ok-added-in-0 w ↦ (
        refl,
        (
          fits at e bs p.text.now p.behind.now p.spacing p.span p.ensures.parts
              (ident [] p.span) (search rules) (search rules) refl p.ensures.utf8.0,
          no_ident at e bs p.text.now p.behind.now p.spacing p.span p.ensures.parts (search rules)
              (search rules),
        ),
      )
      | in-2+in_ok-added-in-2 w ↦ (
        refl,
        (
          fits at e bs p.text.now p.behind.now p.spacing p.span p.ensures.parts
              (literal [] p.span) (search rules) (search rules) refl p.ensures.utf8.0,
          no_literal at e bs p.text.now p.behind.now p.spacing p.span p.ensures.parts
              (search rules) (search rules),
        ),
      )
    ]
