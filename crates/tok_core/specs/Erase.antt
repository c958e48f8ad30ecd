-- A forest without its invisible groups: their content takes their place, at every depth.
use Rattle.tok_lexical.specs.declared.delimiter.Delimiter.TheVariants.{None}
use Rattle.tok_core.specs.Forest.{leaf, group, Forest, no_trees, tree, concat}

-- the visible trees: the contents of an invisible group take its place, at every depth
abbrev pub erase : Forest → Forest
erase no_trees = no_trees
erase (tree (leaf l) f) = tree (leaf l) (erase f)
erase (tree (group None inside span) f) = concat (erase inside) (erase f)
erase (tree (group delimiter inside span) f) = tree (group delimiter (erase inside) span) (erase f)
