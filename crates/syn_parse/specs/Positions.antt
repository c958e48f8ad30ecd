-- Where something is missing, and at which spans an error may say so.
use Rattle.std.specs.Prelude.{◌≡◌, ℕ, List, [], ◌∷◌}
use Rattle.tok_lexical.specs.declared.delimiter.Delimiter.{Delimiter}
use Rattle.tok_lexical.specs.declared.delimiter.Delimiter.TheVariants as delimiter
use Rattle.tok_leaves.specs.declared.span.Span.{Span}
use Rattle.tok_leaves.specs.Leaves.{leaf_span}
use Rattle.tok_leaves.specs.Spans.{opening_span}
use Rattle.tok_core.specs.Erase.{erase}
use Rattle.tok_core.specs.Forest.{Tree, leaf, group, Forest, no_trees, tree, concat, reverse_onto}
use Rattle.tok_core.specs.Forest.{tree_span}
use Rattle.tok_buffer.specs.Place.{Frame, frame, Place, empty_place, at, whole, in_group}

-- Where a stream has these visible trees ahead: at the start of the first one, or over the whole of
-- it. With no trees ahead both are the end of the scope. Or at this very span.
pub data Position : Type 0 where
  at_trees : Forest → Position
  over_tree : Forest → Position
  at_span : Span → Position

-- what is missing: its position, and the text of the error
pub record Missing : Type 0 where
  pub position : Position
  pub words : List ℕ

-- the span with which a tree begins: a group's is its opening
abbrev pub tree_start : Tree → Span
tree_start (leaf l) = leaf_span l
tree_start (group d inside span) = opening_span span

-- what is ahead at the end of a group's contents: after an invisible group what is after it
abbrev pub ahead_after : Delimiter → Forest → Forest
ahead_after delimiter.None after = after
ahead_after d after = no_trees

-- Some tree of a level, at any depth, visible or not, has this span as this part of it, and a
-- stream before the tree has these visible trees ahead. After the level come some more.
pub data Stands (part : Tree → Span) (span : Span) (ahead : Forest) : (level after : Forest)
    → Type 0 where
  here : (t : Tree) (f after : Forest) → part t ≡ span → concat (erase (tree t f)) after ≡ ahead
      → Stands part span ahead (tree t f) after
  later : (t : Tree) (f after : Forest) → Stands part span ahead f after
      → Stands part span ahead (tree t f) after
  among : (d : Delimiter) (inside f after : Forest) (s : Span)
      → Stands part span ahead inside (ahead_after d (concat (erase f) after))
      → Stands part span ahead (tree (group d inside s) f) after

-- the part of the next tree in a scope, or the scope's span at its end
abbrev pub IsNext : (Tree → Span) → (trees : Forest) → Span → (ahead : Forest) → Span → Type 0
IsNext part trees scope no_trees span = span ≡ scope
IsNext part trees scope (tree t f) span = Stands part span (tree t f) trees no_trees

-- a span of this position, among the trees of a scope that ends at that span
abbrev pub IsAt : Forest → Span → Position → Span → Type 0
IsAt trees scope (at_trees ahead) span = IsNext tree_start trees scope ahead span
IsAt trees scope (over_tree ahead) span = IsNext tree_span trees scope ahead span
IsAt trees scope (at_span given) span = span ≡ given

-- a position in a group that closes at this span, seen from outside: its end is that span
abbrev pub seen_outside : Span → Position → Position
seen_outside close (at_trees no_trees) = at_span close
seen_outside close (over_tree no_trees) = at_span close
seen_outside close position = position

-- what is missing in such a group, seen from outside
abbrev pub missing_inside : Span → Missing → Missing
missing_inside close m = record m { position = seen_outside close m.position }

-- all trees of a scope, from its frames, the innermost first
abbrev pub trees_in : Frame → List Frame → Forest
trees_in (frame o passed ahead) [] = reverse_onto passed ahead
trees_in (frame (in_group d span) passed ahead) (frame o before after ∷ ls) =
    trees_in (frame o before (tree (group d (reverse_onto passed ahead) span) after)) ls
trees_in (frame whole passed ahead) (l ∷ ls) = trees_in l ls

-- all trees of a place's scope
abbrev pub scope_trees : Place → Forest
scope_trees empty_place = no_trees
scope_trees (at n s c l ls) = trees_in l ls

-- the part of the first tree, and the scope's span if there is none
abbrev pub next_span : (Tree → Span) → Span → Forest → Span
next_span part scope no_trees = scope
next_span part scope (tree t f) = part t

-- the one span of a position in a scope without invisible groups
abbrev pub only_span : Span → Position → Span
only_span scope (at_trees ahead) = next_span tree_start scope ahead
only_span scope (over_tree ahead) = next_span tree_span scope ahead
only_span scope (at_span span) = span
