-- Forests in which each invisible group holds a visible tree.
use Rattle.std.specs.Prelude.{Bool, true, false, ◌&&◌}
use Rattle.tok_lexical.specs.declared.delimiter.Delimiter.TheVariants.{None}
use Rattle.tok_core.specs.Erase.{erase}
use Rattle.tok_core.specs.Forest.{leaf, group, Forest, no_trees, tree}

-- the forest isn't empty
abbrev pub has_trees : Forest → Bool
has_trees no_trees = false
has_trees (tree t f) = true

-- each invisible group, at any depth, holds a visible tree
abbrev pub filled : Forest → Bool
filled no_trees = true
filled (tree (leaf l) f) = filled f
filled (tree (group None inside span) f) = has_trees (erase inside) && filled inside && filled f
filled (tree (group delimiter inside span) f) = filled inside && filled f
