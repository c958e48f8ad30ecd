use Rattle.std.proofs.Common.{◌∙◌, ap}
use Rattle.tok_core.specs.Forest.{tree, no_trees, concat}
use Rattle.tok_core.specs.Private.Attribute.{bang, doc_group}
use Rattle.std.specs.Str.{chars}
use Rattle.tok_core.proofs.Facts.{joined_assoc}
use Rattle.tok_core.proofs.lexer.attribute.append_doc.Goals as goal

pub returns : goal.returns
returns g c =
    let old = g.B.Build.levels c.args.built.now in
    let between = bang c.args.span c.args.is_inner in
    let last = tree (doc_group c.args.span (chars c.args.text.now)) no_trees in
    rw (
      c.in_ok-append_group.ensures,
      c.in_ok-append_bang.ensures,
      c.in_ok-punct.ensures.ok,
      c.unchecked_punct.ensures,
    )
    (ap (λ f. record { outer = old.outer; inner = f }) (joined_assoc _ between last
    ∙ joined_assoc old.inner _ (concat between last)))
