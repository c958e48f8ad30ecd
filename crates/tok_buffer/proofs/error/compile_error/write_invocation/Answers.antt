use Rattle.std.proofs.Common.{◌∙◌, ap, sym}
use Rattle.tok_core.specs.Forest.{Forest, leaf, group, concat, tree, no_trees}
use Rattle.tok_leaves.specs.Leaves.{literal, leaf_text}
use Rattle.tok_core.specs.Seen.{tree_of}
use Rattle.tok_core.specs.declared.stream.TokenTree.TheVariants.{Literal}
use Rattle.tok_lexical.specs.declared.delimiter.Delimiter.TheVariants.{Brace}
use Rattle.tok_core.proofs.Facts.{concat-none}
use Rattle.tok_core.proofs.Appended.{first_tree, then_tree}
use Rattle.tok_buffer.proofs.error.compile_error.write_invocation.Goals as goal

pub returns : goal.returns
returns c =
    let old : Forest = c.args.tokens.now in
    let held = c.set_span.ensures ∙ ap (λ l. literal (leaf_text l) c.args.end)
    c.in_ok-literal.ensures in
    let inside = first_tree no_trees _ _ _ (c.in_ok-append.ensures.ok
    ∙ ap (λ f. concat f (tree (tree_of (Literal c.set_span.new.self)) no_trees))
    c.new-inside.ensures) (ap leaf held) in
    let one = then_tree old old c.append-2.new.self _ _ _ (sym (concat-none old))
    c.in_ok-append-2.ensures.ok (ap leaf c.punct.ensures) in
    then_tree old c.append-2.new.self c.append-3.new.self _ _ _ one c.in_ok-append-3.ensures.ok
    (c.new-group.ensures ∙ ap (λ f. group Brace f c.args.end) inside)
