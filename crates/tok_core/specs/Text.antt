-- The printed text of a forest.
use Rattle.std.specs.Prelude.{Bool, true, false, if◌then◌else◌, ℕ, List, [], ◌++◌, codes}
use Rattle.tok_lexical.specs.Delimiters.{opening, closing}
use Rattle.tok_leaves.specs.declared.punct.Spacing.TheVariants.{Joint}
use Rattle.tok_leaves.specs.Leaves.{punct, leaf_text}
use Rattle.tok_core.specs.Forest.{Tree, leaf, group, Forest, no_trees, tree}

-- a punct after which no space is printed
abbrev pub is_joint_tree : Tree → Bool
is_joint_tree (leaf (punct c Joint span)) = true
is_joint_tree t = false

-- the space before a tree: none if no tree comes before, or if a joint punct does
abbrev pub space : Bool → List ℕ
space glued = if glued then [] else codes " "

abbrev mutual
  -- the text of a leaf, or of a group with its delimiters
  pub tree_text : Tree → List ℕ
  tree_text (leaf l) = leaf_text l
  tree_text (group delimiter inside span) =
      opening delimiter ++ (text_after true inside ++ closing delimiter)

  -- the text of trees after something, glued to it or not
  pub text_after : Bool → Forest → List ℕ
  text_after glued no_trees = []
  text_after glued (tree t f) = space glued ++ (tree_text t ++ text_after (is_joint_tree t) f)

-- the text of a forest: a space between two trees, unless the first of them is a joint punct
abbrev pub text : Forest → List ℕ
text = text_after true
