-- The place at a count, move by move in reading order.
use Rattle.std.specs.Prelude.{ℕ, zero, suc, ◌+◌, ◌==◌, ◌||◌, if◌then◌else◌, List, [], ◌∷◌, Bool, true, false}
use Rattle.tok_lexical.specs.declared.delimiter.Delimiter.TheVariants as delimiter
use Rattle.tok_core.specs.Forest.{leaf, group, Forest, no_trees, tree}
use Rattle.tok_core.specs.Weight.{weight}
use Rattle.tok_buffer.specs.Entry.{same_delimiter}
use Rattle.tok_buffer.specs.Place.{Enclosing, whole, in_group, Frame, frame, Place, empty_place, at}
use Rattle.tok_buffer.specs.Place.{leave_group}

-- the trees that are still ahead in a frame
abbrev pub frame_ahead : Frame → Forest
frame_ahead (frame o p f) = f

-- the trees of a frame that have been passed, the last one first
abbrev pub frame_passed : Frame → Forest
frame_passed (frame o p f) = p

-- the group around the trees of a frame, or the whole forest
abbrev pub frame_enclosing : Frame → Enclosing
frame_enclosing (frame o p f) = o

-- one move: past a leaf, past a group's opening, or past its end
abbrev pub move : Frame → List Frame → Frame × List Frame
move (frame o p no_trees) [] = (frame o p no_trees, [])
move (frame o p no_trees) (u ∷ us) = (leave_group o p u, us)
move (frame o p (tree (leaf l) f)) us = (frame o (tree (leaf l) p) f, us)
move (frame o p (tree (group d inside span) f)) us =
    (frame (in_group d span) no_trees inside, frame o p f ∷ us)

-- all frames after so many moves from the start of a forest, the innermost first
unfoldable pub frames_at : Forest → ℕ → Frame × List Frame
frames_at g zero = (frame whole no_trees g, [])
frames_at g (suc n) = move (frames_at g n).0 (frames_at g n).1

-- the outer frames up to the one that ends at count s, if the innermost ends at count e
abbrev pub frames_in_scope : ℕ → ℕ → List Frame → List Frame
frames_in_scope e s [] = []
frames_in_scope e s (u ∷ us) =
    if e == s then [] else u ∷ frames_in_scope (e + 1 + weight (frame_ahead u)) s us

-- one of the frames ends at count s
abbrev pub is_scope_end : ℕ → ℕ → List Frame → Bool
is_scope_end e s [] = e == s
is_scope_end e s (u ∷ us) = (e == s) || is_scope_end (e + 1 + weight (frame_ahead u)) s us

-- the count at the end of a frame, if a place in it has count n
abbrev pub end_of : ℕ → Frame → ℕ
end_of n l = n + weight (frame_ahead l)

-- the place at count n of a forest, in the scope that ends at count s
abbrev pub place_at : ℕ → Forest → ℕ → ℕ → Place
place_at k g n s =
    at k s n (frames_at g n).0 (frames_in_scope (end_of n (frames_at g n).0) s (frames_at g n).1)

-- no frame ends here but the scope's
abbrev pub is_settled : Frame → List Frame → Bool
is_settled (frame o p no_trees) [] = true
is_settled (frame o p no_trees) (u ∷ us) = false
is_settled (frame o p (tree t f)) us = true

-- no tree is ahead
abbrev pub at_end : Forest → Bool
at_end no_trees = true
at_end (tree t f) = false

-- a place one move on
abbrev pub advance : Place → Place
advance empty_place = empty_place
advance (at k s n l us) = at k s (n + 1) (move l us).0 (move l us).1

-- the first tree is an invisible group
abbrev pub invisible_front : Forest → Bool
invisible_front no_trees = false
invisible_front (tree (leaf l) f) = false
invisible_front (tree (group d inside span) f) = same_delimiter d delimiter.None

-- one of the frames at count n ends at count s
abbrev pub in_scope : Forest → ℕ → ℕ → Bool
in_scope g n s = is_scope_end (end_of n (frames_at g n).0) s (frames_at g n).1

-- no group ends at count n, except that of the scope
abbrev pub settled_at : Forest → ℕ → ℕ → Bool
settled_at g n s =
    is_settled (frames_at g n).0 (frames_in_scope (end_of n (frames_at g n).0) s (frames_at g n).1)
