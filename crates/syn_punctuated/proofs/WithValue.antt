-- What a list is with one of its values written over.
use Rattle.std.proofs.Common.{◌≡◌, ℕ, zero, suc, ◌+◌, ◌<◌, ◌≤◌, List, [], ◌∷◌, ◌++◌, map, length}
use Rattle.std.proofs.Common.{slice_index_or, slice_set, vec_len, refl, sym, ap, ◌∙◌, arith, Option}
use Rattle.std.proofs.Common.{None, Some, slice_get, if◌then◌else◌, inl, inr, subst, Bool}
use Rattle.std.proofs.lemmas.Option.{slice_get_read, slice_get_past, slice_get_within}
use Rattle.std.proofs.lemmas.Bool.{lt-ltb, le-ltb, cases_lt}
use Rattle.std.proofs.Common.{length-append}
use Rattle.std.proofs.lemmas.List.{length-map}
use Rattle.std.specs.Global.{Vec, Box}
use Rattle.std.specs.Vec.{with_item}
use Rattle.std.specs.Borrow.{MutBor}
use Rattle.std.specs.Option.{OnSome, option_copied_mut}
use Rattle.syn_punctuated.specs.declared.punctuated.Punctuated.{Punctuated}
use Rattle.syn_punctuated.specs.Private.Boxes.{boxed_values}
use Rattle.syn_punctuated.specs.Lists.{values_of}
use Rattle.syn_punctuated.specs.Lends.{with_value_of, with_pair_value, with_last_value, with_value}
use Rattle.syn_punctuated.specs.Lends.{WritesValue}

boxed_at_most_one : {X : Type 0} (last : Option (Box X)) → length (boxed_values last) ≤ 1
boxed_at_most_one last = grind arith

read_first : {X Y : Type 0} (pairs : List (X × Y)) (rest : List X) (i : ℕ) (p : X × Y)
    → slice_get pairs i ≡ Some p → slice_get (map (λ pair. pair.0) pairs ++ rest) i ≡ Some p.0
read_first [] rest i p e = cc
read_first (q ∷ qs) rest zero p e = cc
read_first (q ∷ qs) rest (suc i) p e = read_first qs rest i p e

module _ {X Y : Type 0} where
  pub pair_written : (pairs : Vec (X × Y)) (i : ℕ) (w : X) (p : X × Y) → i < vec_len pairs
      → p ≡ slice_index_or pairs.items i p → with_item pairs i (w, p.1) ≡ with_pair_value pairs i w
  pair_written pairs i w p lt is =
      sym (ap (λ o. with_value_of o pairs i w)
      (slice_get_read pairs.items (vec_len pairs) i p (pairs.ok.0) lt is))

  pub past_end : (list : Punctuated X Y) (i : ℕ) → vec_len list.inner < i
      → slice_get (values_of list) i ≡ None
  past_end list i lt =
      slice_get_past (values_of list) i
      (rw (
        length-append (map (λ pair. pair.0) list.inner.items) (boxed_values list.last),
        length-map,
      ) (omega (arith, boxed_at_most_one list.last, list.inner.ok.0)))

  pub pair_read : (list : Punctuated X Y) (i : ℕ) (p : X × Y) → i < vec_len list.inner
      → p ≡ slice_index_or list.inner.items i p → slice_get (values_of list) i ≡ Some p.0
  pair_read list i p lt is = grind (arith, read_first, slice_get_read)

  pub values_at_most : (list : Punctuated X Y)
      → length (values_of list) ≤ length list.inner.items + 1
  values_at_most list =
      rw (
        length-append (map (λ pair. pair.0) list.inner.items) (boxed_values list.last),
        length-map,
      ) (omega (arith, boxed_at_most_one list.last))

set_front : {X Y : Type 0} (items : List (X × Y)) (rest : List X) (i : ℕ) (w : X) (p : X × Y)
    → slice_get items i ≡ Some p
    → map (λ q. q.0) (slice_set items i (w, p.1)) ++ rest
    ≡ slice_set (map (λ q. q.0) items ++ rest) i w
set_front [] rest i w p e = cc
set_front (q ∷ items) rest zero w p e = refl
set_front (q ∷ items) rest (suc i) w p e = ap (λ zs. q.0 ∷ zs) (set_front items rest i w p e)

set_seconds : {X Y : Type 0} (items : List (X × Y)) (i : ℕ) (w : X) (p : X × Y)
    → slice_get items i ≡ Some p
    → map (λ q. q.1) (slice_set items i (w, p.1)) ≡ map (λ q. q.1) items
set_seconds [] i w p e = cc
set_seconds (q ∷ items) zero w p e = grind arith
set_seconds (q ∷ items) (suc i) w p e = ap (λ zs. q.1 ∷ zs) (set_seconds items i w p e)

set_bare : {X Y : Type 0} (items : List (X × Y)) (x : X) (i : ℕ) (w : X) → i ≡ length items
    → map (λ q. q.0) items ++ w ∷ [] ≡ slice_set (map (λ q. q.0) items ++ x ∷ []) i w
set_bare [] x zero w e = refl
set_bare [] x (suc i) w e = absurd (omega arith)
set_bare (q ∷ items) x zero w e = absurd (omega arith)
set_bare (q ∷ items) x (suc i) w e = ap (λ zs. q.0 ∷ zs) (set_bare items x i w (omega arith))

slice_get_some : {A : Type 0} (xs : List A) (i : ℕ) → i < length xs
    → (x : A) × (slice_get xs i ≡ Some x)
slice_get_some [] i lt = absurd (omega arith)
slice_get_some (y ∷ xs) zero lt = (y, refl)
slice_get_some (y ∷ xs) (suc i) lt = slice_get_some xs i (omega arith)

module _ {X Y : Type 0} where
  written_last : (items : List (X × Y)) (last : Option (Box X)) (i : ℕ) (w : X) → length items ≤ i
      → i < length (map (λ q. q.0) items ++ boxed_values last)
      → map (λ q. q.0) items ++ boxed_values (with_last_value last w)
      ≡ slice_set (map (λ q. q.0) items ++ boxed_values last) i w
  written_last items None i w le lt =
      absurd (omega (arith, length-append (map (λ q. q.0) items) [], length-map items (λ q. q.0)))
  written_last items (Some v) i w le lt =
      set_bare items v.value i w
      (omega (
        arith,
        length-append (map (λ q. q.0) items) (v.value ∷ []),
        length-map items (λ q. q.0),
      ))

  -- a list with the value of the pair at i written over
  pub pair_value_written : (list : Punctuated X Y) (i : ℕ) (w : X) → i < vec_len list.inner
      → WritesValue i w list (record list { inner = with_pair_value list.inner i w })
  pair_value_written list i w lt =
      let item = slice_get_some list.inner.items i (omega (arith, list.inner.ok.0)) in (
        ap (λ o. map (λ q. q.0) (with_value_of o list.inner i w).items ++ boxed_values list.last)
            item.1 ∙ set_front list.inner.items (boxed_values list.last) i w item.0 item.1,
        ap (λ o. map (λ q. q.1) (with_value_of o list.inner i w).items) item.1
            ∙ set_seconds list.inner.items i w item.0 item.1,
      )

  -- a list with its bare last value written over
  last_value_written : (list : Punctuated X Y) (i : ℕ) (w x : X) → i ≡ vec_len list.inner
      → slice_get (values_of list) i ≡ Some x
      → WritesValue i w list (record list { last = with_last_value list.last w })
  last_value_written list i w x e is = grind (arith, written_last, slice_get_within)

  pub last_value_lent : (list : Punctuated X Y) (i : ℕ) (w : X) (r : Option (MutBor X))
      → i ≡ vec_len list.inner
      → slice_get (values_of list) (vec_len list.inner) ≡ option_copied_mut r
      → OnSome r (WritesValue i w list (record list { last = with_last_value list.last w }))
  last_value_lent list i w r e h = grind (arith, last_value_written)

  -- what the list of `with_value` has
  pub writes_with_value : (list : Punctuated X Y) (i : ℕ) (w : X) → i < length (values_of list)
      → WritesValue i w list (with_value list i w)
  writes_with_value list i w lt = elim (cases_lt i (vec_len list.inner)) [
    | inl within ↦ subst (λ (b : Bool).
        WritesValue i w list (if b then record list {
          inner =
              with_pair_value list.inner i w;
        } else record list { last = with_last_value list.last w }))
        (sym (lt-ltb i (vec_len list.inner) within)) (pair_value_written list i w within)
    | inr past ↦ subst (λ (b : Bool).
        WritesValue i w list (if b then record list {
          inner =
              with_pair_value list.inner i w;
        } else record list { last = with_last_value list.last w }))
        (sym (le-ltb i (vec_len list.inner) past))
        (written_last list.inner.items list.last i w (omega (arith, list.inner.ok.0)) lt, refl)
  ]
