-- Forests in which no joint apostrophe is at the edge of an invisible group.
use Rattle.std.specs.Prelude.{Bool, true, false, not, ◌&&◌, ◌==◌}
use Rattle.tok_lexical.specs.Ascii.{apostrophe}
use Rattle.tok_lexical.specs.declared.delimiter.Delimiter.TheVariants.{None}
use Rattle.tok_leaves.specs.declared.punct.Spacing.TheVariants.{Joint}
use Rattle.tok_leaves.specs.Leaves.{punct}
use Rattle.tok_core.specs.Forest.{Tree, leaf, group, Forest, no_trees, tree}

-- a `'` directly before the next tree, as in a lifetime
abbrev pub is_joint_apostrophe : Tree → Bool
is_joint_apostrophe (leaf (punct c Joint span)) = c == apostrophe
is_joint_apostrophe t = false

-- a group whose delimiter is `None`
abbrev pub is_invisible_group : Tree → Bool
is_invisible_group (group None inside span) = true
is_invisible_group t = false

-- there is a first tree, and it is an invisible group
abbrev pub starts_invisible : Forest → Bool
starts_invisible no_trees = false
starts_invisible (tree t f) = is_invisible_group t

-- whether the last tree is a joint apostrophe; with no tree, the value for what comes before
abbrev pub ends_joint : Bool → Forest → Bool
ends_joint before no_trees = before
ends_joint before (tree t f) = ends_joint (is_joint_apostrophe t) f

abbrev mutual
  -- no joint apostrophe is directly before an invisible group or at the end of one, at any depth
  pub clear : Forest → Bool
  clear no_trees = true
  clear (tree t f) = tree_clear t && not (is_joint_apostrophe t && starts_invisible f) && clear f

  -- a group's contents are clear, and those of an invisible group end in no joint apostrophe
  pub tree_clear : Tree → Bool
  tree_clear (leaf l) = true
  tree_clear (group None inside span) = not (ends_joint false inside) && clear inside
  tree_clear (group delimiter inside span) = clear inside
