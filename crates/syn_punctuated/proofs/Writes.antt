-- How a list is written, a pair at a time.
use Rattle.std.proofs.Common.{arith}
use Rattle.std.proofs.Common.{◌≡◌, ℕ, suc, ◌+◌, ◌<◌, ◌≤◌, List, [], ◌∷◌, ◌++◌, map, take, drop, length}
use Rattle.std.proofs.Common.{get_or, Option, None, Some, refl, sym, ap, subst, ◌∙◌, drop-cons}
use Rattle.std.proofs.lemmas.List.{take-append-drop, take_all, take_more}
use Rattle.std.specs.Global.{Box}
use Rattle.std.specs.Prelude.{Result, OnOk, OnErr}
use Rattle.tok_core.specs.Forest.{Forest, concat, no_trees, tree, AppendsFront}
use Rattle.tok_core.proofs.Facts.{concat-none, joined_assoc}
use Rattle.syn_punctuated.specs.Private.Boxes.{boxed_values}
use Rattle.syn_punctuated.specs.Lists.{values_of, separators_of}
use Rattle.syn_punctuated.specs.Printed.{by_turns}
use Rattle.syn_punctuated.specs.declared.punctuated.Punctuated.{Punctuated}

pub on_ok : {T E A B : Type 0} (r : Result T E) → (A → B) → OnOk r A → OnOk r B
on_ok r f h = grind arith

pub on_err : {T E A B : Type 0} (r : Result T E) → (A → B) → OnErr r A → OnErr r B
on_err r f h = grind arith

-- a front of the first of two is a front of both
pub front_first : (old f g new : Forest) → AppendsFront old f new
    → AppendsFront old (concat f g) new
front_first old f g new h =
    (h.0, h.1, concat h.2 g, ap (λ all. concat all g) h.3 ∙ joined_assoc h.0 (tree h.1 h.2) g, h.4)

-- where the first is written, a front of the second is a front of both
pub front_second : (old f mid g new : Forest) → mid ≡ concat old f → AppendsFront mid g new
    → AppendsFront old (concat f g) new
front_second old f mid g new written h = grind (arith, joined_assoc)

module _ {X Y : Type 0} (value : X → Forest) (separator : Y → Forest) where
  abbrev pub both : X × Y → Forest
  both p = concat (value p.0) (separator p.1)

  abbrev pub pairs_written : List (X × Y) → Forest
  pairs_written [] = no_trees
  pairs_written (p ∷ ps) = concat (both p) (pairs_written ps)

  abbrev pub last_written : Option (Box X) → Forest
  last_written None = no_trees
  last_written (Some last) = value last.value

  by_turns-pairs : (ps : List (X × Y)) (last : Option (Box X))
      → by_turns value separator (map (λ p. p.0) ps ++ boxed_values last) (map (λ p. p.1) ps)
      ≡ concat (pairs_written ps) (last_written last)
  by_turns-pairs [] None = refl
  by_turns-pairs [] (Some last) = concat-none (value last.value)
  by_turns-pairs (p ∷ ps) last = grind (arith, joined_assoc, by_turns-pairs ps last)

  pairs_written-append : (ps qs : List (X × Y))
      → pairs_written (ps ++ qs) ≡ concat (pairs_written ps) (pairs_written qs)
  pairs_written-append [] qs = refl
  pairs_written-append (p ∷ ps) qs = grind (arith, joined_assoc, pairs_written-append ps qs)

  -- the whole list, by its fields
  pub list_written : (list : Punctuated X Y)
      → by_turns value separator (values_of list) (separators_of list)
      ≡ concat (pairs_written list.inner.items) (last_written list.last)
  list_written list = by_turns-pairs list.inner.items list.last

  -- the whole list, with x as its last value
  pub last_follows : (list : Punctuated X Y) (last : Box X) (x : X) → list.last ≡ Some last
      → x ≡ last.value → by_turns value separator (values_of list) (separators_of list)
      ≡ concat (pairs_written list.inner.items) (value x)
  last_follows list last x is same =
      list_written list
      ∙ ap (λ last. concat (pairs_written list.inner.items) (last_written last)) is
      ∙ ap (λ y. concat (pairs_written list.inner.items) (value y)) (sym same)

  -- all pairs, once the index is past them
  pub pairs_all : (old mid : Forest) (ps : List (X × Y)) (i : ℕ) → length ps ≤ i
      → mid ≡ concat old (pairs_written (take i ps)) → mid ≡ concat old (pairs_written ps)
  pairs_all old mid ps i past before =
      before ∙ ap (λ qs. concat old (pairs_written qs)) (take_all i ps past)

  -- one pair further
  pub pairs_more : (old mid new : Forest) (ps : List (X × Y)) (i : ℕ) (p : X × Y) → i < length ps
      → p ≡ get_or ps i p → mid ≡ concat old (pairs_written (take i ps)) → new ≡ concat mid (both p)
      → new ≡ concat old (pairs_written (take (i + 1) ps))
  pairs_more old mid new ps i p lt is before step =
      step
      ∙ ap (λ all. concat all (both p)) before
      ∙ joined_assoc old (pairs_written (take i ps)) (both p)
      ∙ ap (concat old) (ap (concat (pairs_written (take i ps))) (sym (concat-none (both p)))
      ∙ sym (pairs_written-append (take i ps) (p ∷ []))
      ∙ ap (λ q. pairs_written (take i ps ++ q ∷ [])) is
      ∙ sym (ap pairs_written (take_more ps i p lt)))

  pairs_at : (ps : List (X × Y)) (i : ℕ) (p : X × Y) → i < length ps → p ≡ get_or ps i p
      → pairs_written ps ≡ concat (concat (pairs_written (take i ps)) (both p))
      (pairs_written (drop (suc i) ps))
  pairs_at ps i p lt is =
      sym (ap pairs_written (take-append-drop i ps))
      ∙ pairs_written-append (take i ps) (drop i ps)
      ∙ ap (λ qs. concat (pairs_written (take i ps)) (pairs_written qs)) (drop-cons ps i p lt
      ∙ ap (λ q. q ∷ drop (suc i) ps) (sym is))
      ∙ sym (joined_assoc (pairs_written (take i ps)) (both p) (pairs_written (drop (suc i) ps)))

  -- and refused there
  pub pairs_stop : (old mid new : Forest) (list : Punctuated X Y) (i : ℕ) (p : X × Y)
      → i < length list.inner.items → p ≡ get_or list.inner.items i p
      → mid ≡ concat old (pairs_written (take i list.inner.items)) → AppendsFront mid (both p) new
      → AppendsFront old (by_turns value separator (values_of list) (separators_of list)) new
  pairs_stop old mid new list i p lt is before stopped =
      let ps = list.inner.items in
      let front : AppendsFront old (concat (pairs_written (take i ps)) (both p)) new =
      front_second old (pairs_written (take i ps)) mid (both p) new before stopped in
      let pairs : AppendsFront old (pairs_written ps) new =
      subst (λ (all : Forest). AppendsFront old all new) (sym (pairs_at ps i p lt is))
      (front_first old (concat (pairs_written (take i ps)) (both p))
      (pairs_written (drop (suc i) ps)) new front) in
      subst (λ (all : Forest). AppendsFront old all new) (sym (list_written list))
      (front_first old (pairs_written ps) (last_written list.last) new pairs)
