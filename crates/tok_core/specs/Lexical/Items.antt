-- The flat list of a forest: its leaves, openings and closings in reading order.
use Rattle.std.specs.Prelude.{◌≡◌, ◌≤◌, ℕ, suc, max, List, [], ◌∷◌, ◌++◌}
use Rattle.tok_leaves.specs.Leaves.{Leaf}
use Rattle.tok_core.specs.Forest.{leaf, group, Forest, no_trees, tree}
use Rattle.tok_leaves.specs.Spans.{source}
use Rattle.tok_lexical.specs.declared.delimiter.Delimiter.{Delimiter}

-- a leaf, the opening of a group at a byte, or the end of a group at a byte
pub data Item : Type 0 where
  leaf_item : Leaf → Item
  opening : Delimiter → ℕ → Item
  closing : Delimiter → ℕ → Item

-- the items of a forest in the source of this number: a group reaches from its opening to its end
pub data Flat (number : ℕ) : Forest → List Item → Type 0 where
  no_items : Flat number no_trees []
  leaf_first : {l : Leaf} {f : Forest} {items : List Item} → Flat number f items →
      Flat number (tree (leaf l) f) (leaf_item l ∷ items)
  group_first : {inside f : Forest} {inner items : List Item} (delimiter : Delimiter)
      (start end : ℕ) → Flat number inside inner → Flat number f items →
      Flat number (tree (group delimiter inside (source number start end)) f)
      (opening delimiter start ∷ (inner ++ closing delimiter end ∷ items))

-- how many groups lie within one another
abbrev pub depth : Forest → ℕ
depth no_trees = 0
depth (tree (leaf l) f) = depth f
depth (tree (group delimiter inside span) f) = max (suc (depth inside)) (depth f)

-- the most groups that may lie within one another
abbrev pub most_levels : ℕ
most_levels = 256

-- the items of a forest with at most this many levels
abbrev pub IsForest : ℕ → ℕ → List Item → Type 0
IsForest number n items = (f : Forest) × (depth f ≤ n) × Flat number f items

-- the items of a forest with these groups still open, outermost first, and at most this many levels
pub data Opens (number : ℕ) : ℕ → List (Delimiter × ℕ) → List Item → Type 0 where
  inside : {n : ℕ} {items : List Item} → IsForest number n items → Opens number n [] items
  within : {n : ℕ} {delimiter : Delimiter} {start : ℕ} {levels : List (Delimiter × ℕ)}
      (before items : List Item) → IsForest number (suc n) before → Opens number n levels items →
      Opens number (suc n) ((delimiter, start) ∷ levels) (before ++ opening delimiter start ∷ items)

-- the group that is open innermost has this delimiter
abbrev pub IsOpenBy : List (Delimiter × ℕ) → Delimiter → Type 0
IsOpenBy levels delimiter =
    (outer : List (Delimiter × ℕ)) × (at : ℕ) × (levels ≡ outer ++ (delimiter, at) ∷ [])
