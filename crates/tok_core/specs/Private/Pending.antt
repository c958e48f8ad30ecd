-- Trees that are still to be compared: lists of trees, of which the last one comes first.
use Rattle.std.specs.Prelude.{ℕ, ◌+◌, ⊤, List, [], ◌∷◌, ◌++◌}
use Rattle.std.specs.Borrow.{Bor}
use Rattle.tok_core.specs.declared.invisible.VisibleTrees.{VisibleTrees}
use Rattle.tok_lexical.specs.declared.delimiter.Delimiter.TheVariants.{None}
use Rattle.tok_leaves.specs.declared.span.Span.{Span}
use Rattle.tok_core.specs.declared.stream.TokenTree.{TokenTree}
use Rattle.tok_core.specs.Erase.{erase}
use Rattle.tok_core.specs.Forest.{Tree, leaf, group, Forest, no_trees, concat}
use Rattle.tok_core.specs.Seen.{trees_of}
use Rattle.tok_core.specs.Weight.{weight}

-- their erasure
abbrev pub pending : List (Bor (List TokenTree)) → Forest
pending [] = no_trees
pending (ts ∷ more) = concat (pending more) (erase (trees_of ts.now))

-- those outside of the invisible groups that are entered, and those at hand
abbrev pub all_of : VisibleTrees → List (Bor (List TokenTree))
all_of v = v.outer.items ++ v.trees ∷ []

-- the weight of all trees that are still to be compared
abbrev pub pending_weight : List (Bor (List TokenTree)) → ℕ
pending_weight [] = 0
pending_weight (ts ∷ more) = pending_weight more + weight (trees_of ts.now)

-- any tree but an invisible group
abbrev pub IsVisible : Tree → Type 0
IsVisible (leaf l) = ⊤
IsVisible (group None inside span) = ⊥
IsVisible (group delimiter inside span) = ⊤

-- the invisible group of these trees
abbrev pub invisible : Forest → Span → Tree
invisible inside span = group None inside span
