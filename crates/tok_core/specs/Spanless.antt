-- Forests compared without their spans.
use Rattle.std.specs.Prelude.{ℕ, ◌==◌, ◌&&◌, bytes_eq, Bool, true, false, List, [], ◌++◌}
use Rattle.std.specs.Hash as fed
use Rattle.tok_lexical.specs.declared.delimiter.Delimiter.{Delimiter}
use Rattle.tok_lexical.specs.declared.delimiter.Delimiter.TheVariants.{Parenthesis, Brace, Bracket}
use Rattle.tok_lexical.specs.declared.delimiter.Delimiter.TheVariants.{None}
use Rattle.tok_leaves.specs.declared.punct.Spacing.{Spacing}
use Rattle.tok_leaves.specs.declared.punct.Spacing.TheVariants.{Alone, Joint}
use Rattle.tok_core.specs.Code.{delimiter_code}
use Rattle.tok_leaves.specs.Leaves.{Leaf, ident, punct, literal}
use Rattle.tok_core.specs.Forest.{Tree, leaf, group, Forest, no_trees, tree}
use Rattle.tok_leaves.specs.Spans.{call_site}

-- a leaf with the call site in place of its span
abbrev pub leaf_spanless : Leaf → Leaf
leaf_spanless (ident text span) = ident text call_site
leaf_spanless (punct c spacing span) = punct c spacing call_site
leaf_spanless (literal text span) = literal text call_site

abbrev mutual
  -- with the call site in place of each span
  pub spanless : Forest → Forest
  spanless no_trees = no_trees
  spanless (tree t f) = tree (tree_spanless t) (spanless f)

  -- a tree with the call site in place of each span in it
  pub tree_spanless : Tree → Tree
  tree_spanless (leaf l) = leaf (leaf_spanless l)
  tree_spanless (group delimiter inside span) = group delimiter (spanless inside) call_site

-- a test of two delimiters for equality
abbrev pub same_delimiter : Delimiter → Delimiter → Bool
same_delimiter Parenthesis Parenthesis = true
same_delimiter Brace Brace = true
same_delimiter Bracket Bracket = true
same_delimiter None None = true
same_delimiter d e = false

-- a test of two spacings for equality
abbrev pub same_spacing : Spacing → Spacing → Bool
same_spacing Alone Alone = true
same_spacing Joint Joint = true
same_spacing s t = false

-- two leaves of one kind are equal but for their spans
abbrev pub leaf_alike : Leaf → Leaf → Bool
leaf_alike (ident s span) (ident t other) = bytes_eq s t
leaf_alike (punct c j span) (punct d k other) = c == d && same_spacing j k
leaf_alike (literal s span) (literal t other) = bytes_eq s t
leaf_alike l k = false

abbrev mutual
  -- equal but for spans
  pub alike : Forest → Forest → Bool
  alike no_trees no_trees = true
  alike (tree t f) (tree u g) = tree_alike t u && alike f g
  alike f g = false

  -- two trees are equal but for all spans in them
  pub tree_alike : Tree → Tree → Bool
  tree_alike (leaf l) (leaf k) = leaf_alike l k
  tree_alike (group d inside span) (group e content other) =
      same_delimiter d e && alike inside content
  tree_alike t u = false

-- the byte that a spacing feeds to a hasher
abbrev pub spacing_number : Spacing → ℕ
spacing_number Alone = 0
spacing_number Joint = 1

abbrev mutual
  -- what a tree feeds to a hasher: a number for what it is, and all but its span; a group's content
  -- ends in a mark of its own
  pub tree_input : Tree → List (List ℕ)
  tree_input (leaf (ident text span)) = fed.u8 3 ++ fed.str text
  tree_input (leaf (punct c spacing span)) =
      fed.u8 1 ++ fed.char c ++ fed.u8 (spacing_number spacing)
  tree_input (leaf (literal text span)) = fed.u8 2 ++ fed.str text
  tree_input (group delimiter inside span) =
      fed.u8 0 ++ fed.u8 (delimiter_code delimiter) ++ forest_input inside ++ fed.u8 255

  -- the input of a hasher by a list of trees, in order; no trees feed nothing
  pub forest_input : Forest → List (List ℕ)
  forest_input no_trees = []
  forest_input (tree t f) = tree_input t ++ forest_input f
