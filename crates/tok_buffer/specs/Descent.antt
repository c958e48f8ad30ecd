-- Descents: into the invisible groups that are next, and past those without a visible tree.
use Rattle.std.specs.Prelude.{◌≡◌, ℕ, ◌+◌, Bool, true, false, List, [], ◌∷◌, Option, Some, None}
use Rattle.std.specs.Prelude.{unwrap_or}
use Rattle.std.specs.Option.{option_or}
use Rattle.tok_lexical.specs.declared.delimiter.Delimiter.TheVariants as delimiter
use Rattle.tok_core.specs.Forest.{leaf, group, Forest, no_trees, tree, reverse_onto}
use Rattle.tok_core.specs.Weight.{weight}
use Rattle.tok_buffer.specs.Place.{Enclosing, in_group, Frame, frame, Place, empty_place, at}
use Rattle.tok_buffer.specs.Place.{leave_group, leave_finished, settled}

-- the place at the first visible tree of these trees, which are ahead in a frame; none if they hold
-- none
abbrev pub into_front : Forest → (number scope count : ℕ) → Enclosing → Forest → List Frame →
    Option Place
into_front no_trees number scope count enclosing passed ls = None
into_front (tree (leaf l) f) number scope count enclosing passed ls =
    Some (at number scope count (frame enclosing passed (tree (leaf l) f)) ls)
into_front (tree (group delimiter.None inside span) f) number scope count enclosing passed ls =
    option_or
    (into_front inside number scope (count + 1) (in_group delimiter.None span) no_trees
    (frame enclosing passed f ∷ ls))
    (into_front f number scope (count + (2 + weight inside)) enclosing
    (tree (group delimiter.None inside span) passed) ls)
into_front (tree (group d inside span) f) number scope count enclosing passed ls =
    Some (at number scope count (frame enclosing passed (tree (group d inside span) f)) ls)

-- the place at the first visible tree, or at the scope's end
abbrev pub descend_from : (number scope count : ℕ) → Frame → List Frame → Place
descend_from number scope count (frame enclosing passed ahead) [] =
    unwrap_or (into_front ahead number scope count enclosing passed [])
    (at number scope (count + weight ahead)
    (frame enclosing (reverse_onto ahead passed) no_trees) [])
descend_from number scope count (frame enclosing passed ahead) (l ∷ ls) =
    unwrap_or (into_front ahead number scope count enclosing passed (l ∷ ls))
    (descend_from number scope (count + weight ahead + 1)
    (leave_group enclosing (reverse_onto ahead passed) l) ls)

-- out of each finished frame, and into the invisible groups that are next
abbrev pub descend : Place → Place
descend empty_place = empty_place
descend (at number scope count l ls) = descend_from number scope count l ls

-- an invisible group is next
abbrev pub is_before_invisible : Place → Bool
is_before_invisible
    (at number scope count (frame enclosing passed (tree (group delimiter.None inside span) f))
    ls) =
    true
is_before_invisible p = false

-- into the next invisible group, and out of it again if it is empty
abbrev pub inwards : Place → Place
inwards (at number scope count
    (frame enclosing passed (tree (group delimiter.None inside span) f)) ls) =
    leave_finished number scope (count + 1) (frame (in_group delimiter.None span) no_trees inside)
    (frame enclosing passed f ∷ ls)
inwards p = p

-- entering, again and again, until no invisible group is next
pub data EntersAll : Place → Place → Type 0 where
  stop : (p : Place) → is_before_invisible p ≡ false → EntersAll p p
  enters : (p q : Place) → is_before_invisible p ≡ true → EntersAll (inwards p) q → EntersAll p q

-- each descent ends in this way, with no invisible group next
abbrev pub DescentsEnter : Type 0
DescentsEnter =
    (p : Place) → EntersAll (settled p) (descend p) × (is_before_invisible (descend p) ≡ false)
