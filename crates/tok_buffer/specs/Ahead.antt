-- The visible trees from a place to its scope's end, and the leftover.
use Rattle.std.specs.Prelude.{Bool, true, false, if◌then◌else◌, List, [], ◌∷◌, ◌++◌, Option, Some, None}
use Rattle.tok_lexical.specs.declared.delimiter.Delimiter.{Delimiter}
use Rattle.tok_lexical.specs.declared.delimiter.Delimiter.TheVariants as delimiter
use Rattle.tok_leaves.specs.declared.span.Span.{Span}
use Rattle.tok_core.specs.Forest.{Tree, leaf, group, Forest, no_trees, tree, tree_span}
use Rattle.tok_buffer.specs.Place.{Frame, frame, Place, empty_place, at}
use Rattle.tok_buffer.specs.Rest.{scope_delimiter}

-- a visible tree, marked if it is in an invisible group that has not been entered
abbrev pub visible : Bool → Forest → List (Bool × Tree)
visible mark no_trees = []
visible mark (tree (leaf l) f) = (mark, leaf l) ∷ visible mark f
visible mark (tree (group delimiter.None inside span) f) = visible true inside ++ visible mark f
visible mark (tree (group d inside span) f) = (mark, group d inside span) ∷ visible mark f

-- the visible trees ahead in each frame, from the innermost out
abbrev pub ahead_in : List Frame → List (Bool × Tree)
ahead_in [] = []
ahead_in (frame o p a ∷ ls) = visible false a ++ ahead_in ls

-- the visible trees up to the scope's end, each with its mark; none at the empty place
abbrev pub marked_ahead : Place → List (Bool × Tree)
marked_ahead empty_place = []
marked_ahead (at n s c l ls) = ahead_in (l ∷ ls)

-- an unread tree: its span, and the delimiter of the group or scope that it is in
pub record Leftover : Type 0 where
  pub span : Span
  pub delimiter : Delimiter

-- the first of these trees as a leftover; its delimiter is `None` in an invisible group
abbrev pub first_left : Delimiter → List (Bool × Tree) → Option Leftover
first_left scope [] = None
first_left scope (t ∷ ts) =
    Some (record { span = tree_span t.1; delimiter = if t.0 then delimiter.None else scope })

-- the first visible tree that is left in the scope; `None` at its end
abbrev pub leftover : Place → Option Leftover
leftover p = first_left (scope_delimiter p) (marked_ahead p)

-- the mark and the span of the first of these trees, if there is one
abbrev pub first_of : List (Bool × Tree) → Option (Bool × Span)
first_of [] = None
first_of (t ∷ ts) = Some (t.0, tree_span t.1)

-- the leftover of a span and a delimiter
abbrev pub left_of : Option (Span × Delimiter) → Option Leftover
left_of None = None
left_of (Some l) = Some (record { span = l.0; delimiter = l.1 })
