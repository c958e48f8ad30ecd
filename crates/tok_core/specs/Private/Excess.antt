-- How much more a forest weighs than it has trees.
use Rattle.std.specs.Prelude.{ℕ, ◌+◌}
use Rattle.tok_core.specs.Forest.{leaf, group, Forest, no_trees, tree}
use Rattle.tok_core.specs.Weight.{weight}

-- the weight of a forest, less one for each tree that isn't in a group
abbrev pub excess : Forest → ℕ
excess no_trees = 0
excess (tree (leaf l) f) = excess f
excess (tree (group delimiter inside span) f) = 1 + weight inside + excess f
