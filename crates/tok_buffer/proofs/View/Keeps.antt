-- A descent keeps what entering an invisible group keeps, and leaving one.
use Rattle.std.proofs.Common.{◌≡◌, ℕ, ◌+◌, List, [], ◌∷◌, Option, Some, None, arith, add-zero}
use Rattle.std.specs.Prelude.{MatchOption, IfSome, unwrap_or, ⊤}
use Rattle.std.specs.Option.{option_or}
use Rattle.tok_leaves.specs.declared.span.Span.{Span}
use Rattle.tok_lexical.specs.declared.delimiter.Delimiter.{Delimiter}
use Rattle.tok_lexical.specs.declared.delimiter.Delimiter.TheVariants as delimiter
use Rattle.tok_core.specs.Forest.{Tree, leaf, group, Forest, no_trees, tree, reverse_onto}
use Rattle.tok_core.specs.Weight.{weight}
use Rattle.tok_core.proofs.Facts.{reversed_back}
use Rattle.tok_buffer.specs.Descent.{into_front, descend_from, descend}
use Rattle.tok_buffer.specs.Entry.{Entered, enter, enter_any, entered_of, same_delimiter}
use Rattle.tok_buffer.specs.Place.{Enclosing, in_group, Frame, frame, Place, empty_place, at}
use Rattle.tok_buffer.specs.Place.{leave_group, leave_finished}
use Rattle.tok_buffer.specs.View.{IsVisibleDelimiter}
use Rattle.std.proofs.lemmas.Bool.{cond_both}

-- P holds inside an invisible group where it holds before it, and after the group where it holds at
-- its end
pub record IsKept (P : Place → Type 0) : Type 0 where
  pub into : (n s c : ℕ) (o : Enclosing) (p inside : Forest) (span : Span) (f : Forest)
      (ls : List Frame)
      → P (at n s c (frame o p (tree (group delimiter.None inside span) f)) ls)
      → P (at n s (c + 1) (frame (in_group delimiter.None span) no_trees inside) (frame o p f ∷ ls))
  pub out : (n s c : ℕ) (o : Enclosing) (p : Forest) (l : Frame) (ls : List Frame)
      → P (at n s c (frame o p no_trees) (l ∷ ls)) → P (at n s (c + 1) (leave_group o p l) ls)

module _ (P : Place → Type 0) (k : IsKept P) where
  -- P holds at the place that was found, or else at the other
  abbrev KeptAt : Option Place → Place → Type 0
  KeptAt r q = MatchOption r (P q) (λ p. P p)

  kept-either : (r q : Option Place) (x y : Place) → KeptAt r x → (P x → KeptAt q y)
      → KeptAt (option_or r q) y
  kept-either (Some p) q x y a b = a
  kept-either None q x y a b = b a

  kept-into_front : (f : Forest) (n s c : ℕ) (o : Enclosing) (p : Forest) (ls : List Frame)
      → P (at n s c (frame o p f) ls)
      → KeptAt (into_front f n s c o p ls)
      (at n s (c + weight f) (frame o (reverse_onto f p) no_trees) ls)
  kept-into_front no_trees n s c o p ls h = rw add-zero h
  kept-into_front (tree (leaf l) f) n s c o p ls h = h
  kept-into_front (tree (group delimiter.None inside span) f) n s c o p ls h =
      let same = reversed_back inside in
      let sums : c + 1 + weight inside + 1 ≡ c + (2 + weight inside) = omega arith in
      let more : c + (2 + weight inside) + weight f ≡ c + (2 + weight inside + weight f) =
      omega arith in
      kept-either _ _ _ _
      (kept-into_front inside n s (c + 1) _ _ _ (k.into n s c o p inside span f ls h))
      (λ past.
      let here = rw same at (k.out n s (c + 1 + weight inside) _ _ (frame o p f) ls past) in
      rw more at (kept-into_front f n s (c + (2 + weight inside)) o
      (tree (group delimiter.None inside span) p) ls (rw sums at here)))
  kept-into_front (tree (group d inside span) f) n s c o p ls h = h

  kept-unwrap : (r : Option Place) (x q : Place) → KeptAt r x → (P x → P q) → P (unwrap_or r q)
  kept-unwrap (Some p) x q a b = a
  kept-unwrap None x q a b = b a

  pub kept-descend_from : (n s c : ℕ) (l : Frame) (ls : List Frame) → P (at n s c l ls)
      → P (descend_from n s c l ls)
  kept-descend_from n s c (frame o p a) [] h =
      kept-unwrap _ _ _ (kept-into_front a n s c o p [] h) (λ x. x)
  kept-descend_from n s c (frame o p a) (l ∷ ls) h =
      kept-unwrap _ _ _ (kept-into_front a n s c o p (l ∷ ls) h)
      (λ x. kept-descend_from n s (c + weight a + 1) (leave_group o (reverse_onto a p) l) ls
      (k.out n s (c + weight a) o (reverse_onto a p) l ls x))

  pub kept-descend : (p : Place) → P p → P (descend p)
  kept-descend empty_place h = h
  kept-descend (at n s c l ls) h = kept-descend_from n s c l ls h

  pub kept-leave_finished : (n s c : ℕ) (l : Frame) (ls : List Frame) → P (at n s c l ls)
      → P (leave_finished n s c l ls)
  kept-leave_finished n s c l [] h = h
  kept-leave_finished n s c (frame o p no_trees) (m ∷ ls) h =
      kept-leave_finished n s (c + 1) (leave_group o p m) ls (k.out n s c o p m ls h)
  kept-leave_finished n s c (frame o p (tree t f)) (m ∷ ls) h = h

-- a leaf, or a visible group
abbrev pub IsVisible : Tree → Type 0
IsVisible (leaf l) = ⊤
IsVisible (group d inside span) = IsVisibleDelimiter d

-- after a descent a visible tree is in front, or the place is at its scope's end
abbrev pub IsDescended : Place → Type 0
IsDescended empty_place = ⊤
IsDescended (at n s c (frame o p (tree t f)) ls) = IsVisible t
IsDescended (at n s c (frame o p no_trees) []) = ⊤
IsDescended (at n s c (frame o p no_trees) (l ∷ ls)) = ⊥

descended-either : (r q : Option Place) → IfSome r IsDescended → IfSome q IsDescended
    → IfSome (option_or r q) IsDescended
descended-either (Some p) q a b = a
descended-either None q a b = b

descended-into_front : (f : Forest) (n s c : ℕ) (o : Enclosing) (p : Forest) (ls : List Frame)
    → IfSome (into_front f n s c o p ls) IsDescended
descended-into_front no_trees n s c o p ls = tt
descended-into_front (tree (leaf l) f) n s c o p ls = tt
descended-into_front (tree (group delimiter.None inside span) f) n s c o p ls =
    descended-either _ _ (descended-into_front inside n s (c + 1) _ _ _)
    (descended-into_front f n s (c + (2 + weight inside)) o _ ls)
descended-into_front (tree (group d inside span) f) n s c o p ls = tt

descended-unwrap : (r : Option Place) (q : Place) → IfSome r IsDescended → IsDescended q
    → IsDescended (unwrap_or r q)
descended-unwrap (Some p) q a b = a
descended-unwrap None q a b = b

descended-descend_from : (n s c : ℕ) (l : Frame) (ls : List Frame)
    → IsDescended (descend_from n s c l ls)
descended-descend_from n s c (frame o p a) [] =
    descended-unwrap _ _ (descended-into_front a n s c o p []) tt
descended-descend_from n s c (frame o p a) (l ∷ ls) =
    descended-unwrap _ _ (descended-into_front a n s c o p (l ∷ ls))
    (descended-descend_from n s (c + weight a + 1) (leave_group o (reverse_onto a p) l) ls)

pub descended-descend : (p : Place) → IsDescended (descend p)
descended-descend empty_place = tt
descended-descend (at n s c l ls) = descended-descend_from n s c l ls

-- what holds of the group in front after a descent holds of the visible group that is entered
of-any : (P : Entered → Type 0) (d : Delimiter) (r : Option Entered) → IfSome r P
    → IfSome (entered_of d r) P
of-any P d None h = tt
of-any P d (Some e) h =
    cond_both (same_delimiter d e.delimiter) (Some e) None (λ r. IfSome r P) (λ _. h) (λ _. tt)

pub of-entered : (P : Entered → Type 0) (d : Delimiter) (p : Place) → IfSome (enter_any p) P
    → IfSome (enter_any (descend p)) P → IfSome (enter d p) P
of-entered P delimiter.None p h k = of-any P delimiter.None (enter_any p) h
of-entered P d p h k = of-any P d (enter_any (descend p)) k

pub of-front : (P : Entered → Type 0) (d : Delimiter) (p : Place) → IsVisibleDelimiter d
    → IfSome (enter_any (descend p)) P → IfSome (enter d p) P
of-front P delimiter.None p v h = absurd v
of-front P d p v h = of-any P d (enter_any (descend p)) h
