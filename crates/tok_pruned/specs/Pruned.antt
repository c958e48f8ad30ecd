-- A forest without the invisible groups that hold nothing visible.
use Rattle.std.specs.Prelude.{Bool, true, if◌then◌else◌}
use Rattle.tok_lexical.specs.declared.delimiter.Delimiter.{Delimiter}
use Rattle.tok_lexical.specs.declared.delimiter.Delimiter.TheVariants.{None}
use Rattle.tok_core.specs.Erase.{erase}
use Rattle.tok_core.specs.Filled.{has_trees}
use Rattle.tok_core.specs.Forest.{leaf, group, Forest, no_trees, tree}

-- the forest in which an invisible group, at any depth, stays only if it holds a visible tree
abbrev pub pruned : Forest → Forest
pruned no_trees = no_trees
pruned (tree (leaf l) f) = tree (leaf l) (pruned f)
pruned (tree (group None inside span) f) =
    if has_trees (erase inside) then tree (group None (pruned inside) span) (pruned f)
    else pruned f
pruned (tree (group delimiter inside span) f) =
    tree (group delimiter (pruned inside) span) (pruned f)

-- a group with these pruned contents stays
abbrev pub is_kept : Delimiter → Forest → Bool
is_kept None inside = has_trees inside
is_kept delimiter inside = true
