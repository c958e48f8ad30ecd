-- The end of a scope in a filled forest.
use Rattle.std.proofs.Common.{◌≡◌, refl, ℕ, ◌+◌, true, ◌&&◌, not, List, [], ◌∷◌}
use Rattle.std.specs.Prelude.{⊤}
use Rattle.std.proofs.lemmas.Bool.{and_parts}
use Rattle.tok_lexical.specs.declared.delimiter.Delimiter.TheVariants as delimiter
use Rattle.tok_core.specs.Erase.{erase}
use Rattle.tok_core.specs.Filled.{filled, has_trees}
use Rattle.tok_core.specs.Forest.{leaf, group, Forest, no_trees, tree, concat}
use Rattle.tok_core.proofs.Facts.{has_trees_concat}
use Rattle.tok_buffer.specs.Place.{Enclosing, whole, in_group, Frame, frame, Place, empty_place, at}
use Rattle.tok_buffer.specs.Place.{leave_group, leave_finished, is_at_end}
use Rattle.tok_buffer.specs.View.{erased_ahead, erased_in}
use Rattle.tok_buffer.proofs.View.Keeps.{IsKept}

-- only the last frame, which is the scope, can have nothing ahead
abbrev pub IsSettled : Place → Type 0
IsSettled (at n s c (frame o p no_trees) (l ∷ ls)) = ⊥
IsSettled p = ⊤

pub is_settled : (n s c : ℕ) (l : Frame) (ls : List Frame) → IsSettled (leave_finished n s c l ls)
is_settled n s c (frame o p no_trees) [] = tt
is_settled n s c (frame o p (tree t f)) [] = tt
is_settled n s c (frame o p no_trees) (m ∷ ls) = is_settled n s (c + 1) (leave_group o p m) ls
is_settled n s c (frame o p (tree t f)) (m ∷ ls) = tt

-- the trees ahead in each frame are filled
abbrev LevelsFilled : List Frame → Type 0
LevelsFilled [] = ⊤
LevelsFilled (frame o p a ∷ ls) = (filled a ≡ true) × LevelsFilled ls

-- no invisible group ahead of the place is empty
abbrev pub IsFilledPlace : Place → Type 0
IsFilledPlace empty_place = ⊤
IsFilledPlace (at n s c l ls) = LevelsFilled (l ∷ ls)

filled-leave_group : (o : Enclosing) (p : Forest) (l : Frame) (ls : List Frame)
    → LevelsFilled (l ∷ ls)
    → LevelsFilled (leave_group o p l ∷ ls)
filled-leave_group whole p l ls h = h
filled-leave_group (in_group d span) p (frame o q a) ls h = h

pub kept-filled : IsKept IsFilledPlace
kept-filled = record {
  into = λ n s c o p inside span f ls h.
      let outer = and_parts (has_trees (erase inside) && filled inside) (filled f) h.0 in
      let inner = and_parts (has_trees (erase inside)) (filled inside) outer.0 in
      (inner.1, (outer.1, h.1));
  out = λ n s c o p l ls h. filled-leave_group o p l ls h.1;
}

pub has-front : (a b : Forest) → has_trees a ≡ true → has_trees (concat a b) ≡ true
has-front a b h = rw (has_trees_concat a b, h)

-- in a filled forest a place is at an end exactly where no visible tree is ahead
pub end_tells : (p : Place) → IsSettled p → IsFilledPlace p
    → is_at_end p ≡ not (has_trees (erased_ahead p))
end_tells empty_place h k = refl
end_tells (at n s c (frame o p no_trees) []) h k = refl
end_tells (at n s c (frame o p no_trees) (l ∷ ls)) h k = absurd h
end_tells (at n s c (frame o p (tree (leaf l) f)) ls) h k = refl
end_tells (at n s c (frame o p (tree (group delimiter.None inside span) f)) ls) h k =
    let outer = and_parts (has_trees (erase inside) && filled inside) (filled f) k.0 in
    let inner = and_parts (has_trees (erase inside)) (filled inside) outer.0 in
    rw (has-front (concat (erase inside) (erase f)) (erased_in ls)
    (has-front (erase inside) (erase f) inner.0))
end_tells (at n s c (frame o p (tree (group d inside span) f)) ls) h k = refl
