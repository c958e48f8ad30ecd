-- What the trees of the program stand for. A stream is a forest.
use Rattle.std.specs.Prelude.{List, [], ◌∷◌}
use Rattle.tok_core.specs.declared.group.Group.{Group}
use Rattle.tok_core.specs.declared.stream.TokenTree.{TokenTree}
use Rattle.tok_core.specs.declared.stream.TokenTree.TheVariants as made
use Rattle.tok_core.specs.Forest.{Tree, leaf, group, Forest, no_trees, tree, forest}
use Rattle.tok_lexical.specs.Ascii.{apostrophe}
use Rattle.tok_leaves.specs.declared.lifetime.Lifetime.{Lifetime}
use Rattle.tok_leaves.specs.declared.punct.Spacing.TheVariants.{Joint}
use Rattle.tok_leaves.specs.declared.span.Span.{Span}
use Rattle.tok_leaves.specs.Leaves.{Leaf, punct, ident_of, punct_of, literal_of}
use Rattle.tok_leaves.specs.Spans.{bounds_delimiter, bounds_span}

-- the tree that a `Group` stands for
abbrev pub group_of : Group → Tree
group_of g = group (bounds_delimiter g.bounds) g.stream (bounds_span g.bounds)

-- the tree that a `TokenTree` stands for
abbrev pub tree_of : TokenTree → Tree
tree_of (made.Group g) = group_of g
tree_of (made.Ident i) = leaf (ident_of i)
tree_of (made.Punct p) = leaf (punct_of p)
tree_of (made.Literal l) = leaf (literal_of l)

-- the forest that several trees are
abbrev pub trees_of : List TokenTree → Forest
trees_of [] = no_trees
trees_of (t ∷ ts) = tree (tree_of t) (trees_of ts)

-- the two trees of a lifetime
abbrev pub lifetime_trees : Span → Leaf → List Tree
lifetime_trees span name = leaf (punct apostrophe Joint span) ∷ leaf name ∷ []

-- the two trees of a lifetime, in a forest of their own
abbrev pub lifetime_forest : Lifetime → Forest
lifetime_forest l = forest (lifetime_trees l.apostrophe (ident_of l.ident))
