-- The view of a place: what of it does not depend on invisible groups.
use Rattle.std.specs.Prelude.{⊤, Option, option_map, ℕ, ◌==◌, Bool, true, false, List, [], ◌∷◌}
use Rattle.std.specs.Prelude.{◌++◌, sum, drop}
use Rattle.tok_lexical.specs.declared.delimiter.Delimiter.{Delimiter}
use Rattle.tok_lexical.specs.declared.delimiter.Delimiter.TheVariants as delimiter
use Rattle.tok_core.specs.Erase.{erase}
use Rattle.tok_core.specs.Forest.{Tree, leaf, group, Forest, no_trees, tree, concat}
use Rattle.tok_buffer.specs.Entry.{Entered, entered_with, EnteredWith}
use Rattle.tok_buffer.specs.Place.{Frame, frame, Place, empty_place, at}
use Rattle.tok_buffer.specs.Rest.{frames_delimiter}

-- for each opening, leaf and closing in order: 0 if it is an invisible group's, else 1
abbrev pub visible_marks : Forest → List ℕ
visible_marks no_trees = []
visible_marks (tree (leaf l) f) = 1 ∷ visible_marks f
visible_marks (tree (group delimiter.None inside span) f) =
    0 ∷ (visible_marks inside ++ (0 ∷ visible_marks f))
visible_marks (tree (group d inside span) f) = 1 ∷ (visible_marks inside ++ (1 ∷ visible_marks f))

-- how many visible openings, leaves and closings come after the first so many of all
abbrev pub visible_after : Forest → ℕ → ℕ
visible_after f k = sum (drop k (visible_marks f))

-- the trees ahead of a place without invisible groups, frame by frame
abbrev pub erased_in : List Frame → Forest
erased_in [] = no_trees
erased_in (frame o p a ∷ ls) = concat (erase a) (erased_in ls)

-- the visible trees ahead of a place, up to its scope's end
abbrev pub erased_ahead : Place → Forest
erased_ahead empty_place = no_trees
erased_ahead (at n s c l ls) = erased_in (l ∷ ls)

-- how many visible openings, leaves and closings come after the scope, which tells the scope; its
-- delimiter; and the erased trees ahead
pub data View : Type 0 where
  empty_view : View
  seen : (after : ℕ) → Delimiter → Forest → View

-- a place of a forest, seen without its invisible groups
abbrev pub view : Forest → Place → View
view f empty_place = empty_view
view f (at n s c l ls) = seen (visible_after f s) (frames_delimiter l ls) (erased_in (l ∷ ls))

-- the delimiter of a view's scope
abbrev pub delimiter_in_view : View → Delimiter
delimiter_in_view empty_view = delimiter.None
delimiter_in_view (seen k d trees) = d

-- two views in one scope
abbrev pub one_scope_in_view : View → View → Bool
one_scope_in_view empty_view empty_view = true
one_scope_in_view (seen k d a) (seen j e b) = k == j
one_scope_in_view v w = false

-- a read, with the view of the place after it
abbrev pub with_view : Forest → Option (List Tree × Place) → Option (List Tree × View)
with_view f r = option_map (λ q. (q.0, view f q.1)) r

-- a group that is entered, with the views of its content and of the place after it
abbrev pub entered_view : Forest → Entered → EnteredWith View
entered_view f = entered_with (view f)

-- any delimiter but `None`
abbrev pub IsVisibleDelimiter : Delimiter → Type 0
IsVisibleDelimiter delimiter.None = ⊥
IsVisibleDelimiter d = ⊤
