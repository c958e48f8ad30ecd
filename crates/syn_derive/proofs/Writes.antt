-- Values that are written in turn, one further and stopped at one.
use Rattle.std.proofs.Common.{◌≡◌, ℕ, suc, ◌+◌, ◌<◌, List, [], ◌∷◌, ◌++◌, take, drop, length, get_or}
use Rattle.std.proofs.Common.{refl, sym, ap, subst, ◌∙◌, drop-cons}
use Rattle.std.proofs.lemmas.List.{take-append-drop, take_more}
use Rattle.tok_core.specs.Forest.{AppendsFront, Forest, concat}
use Rattle.tok_core.proofs.Facts.{concat-none, joined_assoc}
use Rattle.syn_punctuated.proofs.Writes.{front_first, front_second}
use Rattle.syn_derive.specs.Printing.{all_trees}

module _ {X : Type 0} (printed : X → Forest) where
  abbrev all : List X → Forest
  all = all_trees printed

  all-append : (xs ys : List X) → all (xs ++ ys) ≡ concat (all xs) (all ys)
  all-append [] ys = refl
  all-append (x ∷ xs) ys =
      ap (concat (printed x)) (all-append xs ys) ∙ sym (joined_assoc (printed x) (all xs) (all ys))

  all-at : (xs : List X) (i : ℕ) (x : X) → i < length xs → x ≡ get_or xs i x
      → all xs ≡ concat (all (take i xs)) (concat (printed x) (all (drop (suc i) xs)))
  all-at xs i x lt is =
      sym (ap all (take-append-drop i xs)) ∙ all-append (take i xs) (drop i xs)
      ∙ ap (λ ys. concat (all (take i xs)) (all ys)) (drop-cons xs i x lt
      ∙ ap (λ y. y ∷ drop (suc i) xs) (sym is))

  pub all_more : (old mid new : Forest) (xs : List X) (i : ℕ) (x : X) → i < length xs
      → x ≡ get_or xs i x → mid ≡ concat old (all (take i xs)) → new ≡ concat mid (printed x)
      → new ≡ concat old (all (take (i + 1) xs))
  all_more old mid new xs i x lt is before step =
      step ∙ ap (λ f. concat f (printed x)) before ∙ joined_assoc old (all (take i xs)) (printed x)
      ∙ ap (concat old) (ap (concat (all (take i xs))) (sym (concat-none (printed x)))
      ∙ sym (all-append (take i xs) (x ∷ [])) ∙ ap (λ y. all (take i xs ++ y ∷ [])) is
      ∙ sym (ap all (take_more xs i x lt)))

  pub all_stop : (old mid new : Forest) (xs : List X) (i : ℕ) (x : X) → i < length xs
      → x ≡ get_or xs i x → mid ≡ concat old (all (take i xs)) → AppendsFront mid (printed x) new
      → AppendsFront old (all xs) new
  all_stop old mid new xs i x lt is before stopped =
      subst (λ (f : Forest). AppendsFront old f new) (sym (all-at xs i x lt is))
      (front_second old (all (take i xs)) mid (concat (printed x) (all (drop (suc i) xs))) new
      before (front_first mid (printed x) (all (drop (suc i) xs)) new stopped))
