-- Any visible tree, and all that is left, by the visible trees ahead.
use Rattle.std.proofs.Common.{arith}
use Rattle.std.specs.Prelude.{List, [], ◌∷◌, codes}
use Rattle.tok_leaves.specs.Leaves.{ident}
use Rattle.tok_leaves.specs.Spans.{call_site}
use Rattle.tok_core.specs.Forest.{Tree, leaf, Forest, no_trees}
use Rattle.tok_core.specs.declared.stream.TokenTree.{TokenTree}
use Rattle.tok_buffer.specs.EachRead.{first_if}
use Rattle.tok_core.specs.Kinds.{any_tree}
use Rattle.tok_buffer.specs.Trees.{read_visible}
use Rattle.syn_parse.specs.ErrorWords.{refused_at}
use Rattle.syn_parse.specs.Lighter.{by-lowers, if-shorter, lightens_lower}
use Rattle.syn_parse.specs.Parses.{IsTree}
use Rattle.syn_parse.specs.Reads.{Call, Reads}
use Rattle.syn_parse.specs.Takes.{Taking, found, missing_next, take_by}
use Rattle.syn_parse.specs.Takings.{Lightens, Lowers}

-- the next visible tree
abbrev pub VisibleTreeParses : Call TokenTree
VisibleTreeParses s =
    Reads IsTree (read_visible s.place) (refused_at s (codes "expected token tree")) s

-- the one tree that is read
abbrev pub tree_in : List Tree → Tree
tree_in (t ∷ ts) = t
tree_in [] = leaf (ident [] call_site)

-- a tree, without invisible groups
unfoldable pub take_tree : Taking Tree
take_tree = take_by (first_if any_tree) tree_in (missing_next (codes "expected token tree"))

-- all trees that are left
abbrev pub take_rest : Taking Forest
take_rest a = found a.trees (record a { trees = no_trees })

-- a parser of a tree takes something
pub lowers_tree : Lowers take_tree
unfolding take_tree
lowers_tree =
    by-lowers (first_if any_tree) tree_in (missing_next (codes "expected token tree"))
    (if-shorter any_tree)

-- a parser of a tree adds nothing to what is ahead
pub lightens_tree : Lightens take_tree
lightens_tree = lightens_lower take_tree lowers_tree

-- a parser of all trees that are left adds nothing to what is ahead
pub lightens_rest : Lightens take_rest
lightens_rest = grind arith
