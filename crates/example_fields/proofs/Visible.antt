-- The first and the last tree of a forest, one tree after another.
use Rattle.std.proofs.Common.{◌≡◌, ◌∙◌, ap, refl, sym}
use Rattle.tok_lexical.specs.declared.delimiter.Delimiter.TheVariants.{None as Invisible}
use Rattle.tok_leaves.specs.declared.span.Span.{Span}
use Rattle.tok_core.proofs.Facts.{concat-none, erase_tree}
use Rattle.tok_core.specs.Erase.{erase}
use Rattle.tok_core.specs.Forest.{Forest, Tree, concat, group, no_trees, tree, tree_span}
use Rattle.example_fields.specs.Ends.{Ends, ends_after, widened}
use Rattle.std.specs.Prelude.{Some}

ends_concat : (e : Ends) (f g : Forest)
    → ends_after e (concat f g) ≡ ends_after (ends_after e f) g
ends_concat e no_trees g = refl
ends_concat e (tree t f) g = ends_concat (Some (widened e (tree_span t))) f g

-- a tree, and then the others
pub ends_tree : (e : Ends) (t : Tree) (f : Forest)
    → ends_after (ends_after e (erase (tree t no_trees))) (erase f)
    ≡ ends_after e (erase (tree t f))
ends_tree e t f =
    sym (ap (ends_after e) (erase_tree t f) ∙ ends_concat e (erase (tree t no_trees)) (erase f))

-- an invisible group's trees stand for it
pub ends_inside : (e : Ends) (inside : Forest) (span : Span) → ends_after e (erase inside)
    ≡ ends_after e (erase (tree (group Invisible inside span) no_trees))
ends_inside e inside span = ap (ends_after e) (sym (concat-none (erase inside)))
