-- Places in a forest, frame by frame.
use Rattle.std.specs.Prelude.{ℕ, ◌+◌, Bool, true, false, List, [], ◌∷◌, Option, Some, None}
use Rattle.tok_lexical.specs.declared.delimiter.Delimiter.{Delimiter}
use Rattle.tok_leaves.specs.declared.span.Span.{Span}
use Rattle.tok_core.specs.Forest.{Tree, group, Forest, no_trees, tree, reverse_onto}
use Rattle.tok_core.specs.Weight.{weight, tree_weight}

-- what encloses a frame's trees: the whole forest or a group
pub data Enclosing : Type 0 where
  whole : Enclosing
  in_group : Delimiter → Span → Enclosing

-- the trees passed, the last one first, and the trees ahead
pub data Frame : Type 0 where
  frame : Enclosing → (passed ahead : Forest) → Frame

-- A zipper: a buffer's number, the count at the scope's end, the count of what is before, the
-- innermost frame, and those around it, the scope's last.
pub data Place : Type 0 where
  empty_place : Place
  at : (number scope count : ℕ) → Frame → List Frame → Place

-- the start of a forest
abbrev pub start : ℕ → Forest → Place
start number f = at number (weight f) 0 (frame whole no_trees f) []

-- a group that has been passed whole is the last tree passed of the frame around it
abbrev pub leave_group : Enclosing → Forest → Frame → Frame
leave_group (in_group delimiter span) passed (frame enclosing before ahead) =
    frame enclosing (tree (group delimiter (reverse_onto passed no_trees) span) before) ahead
leave_group whole passed l = l

-- a frame with nothing ahead is left, unless it is the scope's
abbrev pub leave_finished : (number scope count : ℕ) → Frame → List Frame → Place
leave_finished number scope count l [] = at number scope count l []
leave_finished number scope count (frame enclosing passed no_trees) (l ∷ ls) =
    leave_finished number scope (count + 1) (leave_group enclosing passed l) ls
leave_finished number scope count (frame enclosing passed (tree t f)) (l ∷ ls) =
    at number scope count (frame enclosing passed (tree t f)) (l ∷ ls)

-- a place in which each frame that is left has been dropped
abbrev pub settled : Place → Place
settled empty_place = empty_place
settled (at number scope count l ls) = leave_finished number scope count l ls

-- the front tree; at an end there is none
abbrev pub front : Place → Option Tree
front (at number scope count (frame enclosing passed (tree t f)) ls) = Some t
front p = None

-- past the front tree, and out of each frame that ends with it; at an end nothing moves
abbrev pub pass : Place → Place
pass (at number scope count (frame enclosing passed (tree t f)) ls) =
    leave_finished number scope (count + tree_weight t) (frame enclosing (tree t passed) f) ls
pass p = p

-- no tree is ahead in the innermost frame; the empty place is at an end too
abbrev pub is_at_end : Place → Bool
is_at_end (at number scope count (frame enclosing passed (tree t f)) ls) = false
is_at_end p = true

-- how many openings, leaves and closings lie before
abbrev pub count_before : Place → Option ℕ
count_before empty_place = None
count_before (at number scope count l ls) = Some count
