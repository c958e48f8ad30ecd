-- Trees and forests, as contracts see them.
use Rattle.std.specs.Prelude.{◌≡◌, List, [], ◌∷◌}
use Rattle.tok_lexical.specs.declared.delimiter.Delimiter.{Delimiter}
use Rattle.tok_lexical.specs.declared.delimiter.Delimiter.TheVariants.{None}
use Rattle.tok_leaves.specs.declared.span.Span.{Span}
use Rattle.tok_leaves.specs.Leaves.{Leaf, ident, punct, literal, leaf_span}

-- a forest is a list of trees
mutual
  -- a leaf, or a group: its delimiter, what is inside, and its span
  pub data Tree : Type 0 where
    leaf : Leaf → Tree
    group : Delimiter → Forest → Span → Tree

  -- no trees, or a first tree and the others
  pub data Forest : Type 0 where
    no_trees : Forest
    tree : Tree → Forest → Forest

-- the forest of a list of trees
abbrev pub forest : List Tree → Forest
forest [] = no_trees
forest (t ∷ ts) = tree t (forest ts)

-- one forest after another
abbrev pub concat : Forest → Forest → Forest
concat no_trees g = g
concat (tree t f) g = tree t (concat f g)

-- some first trees of one forest come after those of another: the rest was not appended
abbrev pub AppendsFront : (old added new : Forest) → Type 0
AppendsFront old added new =
    (front : Forest) × (refused : Tree) × (rest : Forest)
    × (added ≡ concat front (tree refused rest)) × (new ≡ concat old front)

-- parts of a group, with a default if the tree is a leaf
abbrev pub tree_delimiter : Tree → Delimiter
tree_delimiter (group delimiter inside span) = delimiter
tree_delimiter (leaf l) = None

-- the contents of a group; a leaf has none
abbrev pub tree_inside : Tree → Forest
tree_inside (group delimiter inside span) = inside
tree_inside (leaf l) = no_trees

-- the span of a leaf, or of a whole group
abbrev pub tree_span : Tree → Span
tree_span (leaf l) = leaf_span l
tree_span (group delimiter inside span) = span

-- the same tree, at another span; what is inside a group stays
abbrev pub with_span : Span → Tree → Tree
with_span span (leaf (ident text old)) = leaf (ident text span)
with_span span (leaf (punct c spacing old)) = leaf (punct c spacing span)
with_span span (leaf (literal text old)) = leaf (literal text span)
with_span span (group delimiter inside old) = group delimiter inside span

-- the last tree first, after what is there
abbrev pub reverse_onto : Forest → Forest → Forest
reverse_onto no_trees g = g
reverse_onto (tree t f) g = reverse_onto f (tree t g)
