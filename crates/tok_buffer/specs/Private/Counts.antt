-- How many trees a forest has.
use Rattle.std.specs.Prelude.{ℕ, ◌+◌}
use Rattle.tok_core.specs.Forest.{Forest, no_trees, tree}

-- how many trees there are; a group is one, whatever is in it
abbrev pub tree_count : Forest → ℕ
tree_count no_trees = 0
tree_count (tree t f) = 1 + tree_count f
