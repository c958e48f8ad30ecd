-- The trees of the attribute that a doc comment stands for.
use Rattle.std.specs.Prelude.{ℕ, List, Bool, true, false, codes}
use Rattle.tok_core.specs.Forest.{Tree, leaf, group, Forest, no_trees, tree, concat}
use Rattle.tok_leaves.specs.Leaves.{ident, punct, literal}
use Rattle.tok_leaves.specs.Quoting.{shown_in_quotes}
use Rattle.tok_leaves.specs.declared.punct.Spacing.TheVariants.{Alone}
use Rattle.tok_leaves.specs.declared.span.Span.{Span}
use Rattle.tok_lexical.specs.declared.delimiter.Delimiter.TheVariants.{Bracket}

-- `[doc = ".."]`
abbrev pub doc_group : Span → List ℕ → Tree
doc_group span text =
    group Bracket (tree (leaf (ident (codes "doc") span)) (tree (leaf (punct 61 Alone span))
    (tree (leaf (literal (shown_in_quotes text) span)) no_trees))) span

-- `!` if the comment is an inner one, else no trees
abbrev pub bang : Span → Bool → Forest
bang span true = tree (leaf (punct 33 Alone span)) no_trees
bang span false = no_trees

-- with the marks before it
abbrev pub doc_forest : Span → Bool → List ℕ → Forest
doc_forest span inner text =
    tree (leaf (punct 35 Alone span))
    (concat (bang span inner) (tree (doc_group span text) no_trees))
