-- Whether a list that `retain` left ends in a separator.
use Rattle.std.proofs.Common.{◌≡◌, ◌==◌, ◌&&◌, not, ℕ, ◌+◌, ◌<◌, ◌≤◌, Bool, true, false, List}
use Rattle.std.proofs.Common.{[], ◌∷◌, ◌++◌, length, map, Option, None, Some, refl, sym, ap, ◌∙◌}
use Rattle.std.proofs.Common.{arith, inl, inr, ◌⊎◌}
use Rattle.std.proofs.lemmas.Bool.Decides.{nat_tests}
use Rattle.std.proofs.Common.{length-append, append-nil}
use Rattle.std.proofs.lemmas.List.{length-map, length-take-le}
use Rattle.std.specs.Global.{Box}
use Rattle.syn_punctuated.proofs.RetainSteps.{runs_long}
use Rattle.syn_punctuated.specs.Private.Boxes.{boxed_values}
use Rattle.syn_punctuated.specs.Lists.{values_of, separators_of, is_trailing}
use Rattle.syn_punctuated.specs.Retained.{kept_values, kept_separators, Retains}
use Rattle.syn_punctuated.specs.declared.punctuated.Punctuated.{Punctuated}

even_is : (n m : ℕ) → 0 < n → n ≡ m → (not (n == 0) && (n == m)) ≡ true
even_is n m some same = grind (arith, nat_tests)

bare_is : (n m : ℕ) → n ≡ m + 1 → (not (n == 0) && (n == m)) ≡ false
bare_is n m more = grind (arith, nat_tests)

-- a list has as many values as separators, or one more
even_or_bare_by : {X Y : Type 0} (pairs : List (X × Y)) (last : Option (Box X))
    → (length (map (λ p. p.0) pairs ++ boxed_values last) ≡ length (map (λ p. p.1) pairs))
    ⊎ (length (map (λ p. p.0) pairs ++ boxed_values last) ≡ length (map (λ p. p.1) pairs) + 1)
even_or_bare_by pairs None =
    inl (ap length (append-nil (map (λ p. p.0) pairs)) ∙ length-map pairs (λ p. p.0)
    ∙ sym (length-map pairs (λ p. p.1)))
even_or_bare_by pairs (Some v) =
    inr (omega (
      arith,
      length-append (map (λ p. p.0) pairs) (v.value ∷ []),
      length-map pairs (λ p. p.0),
      length-map pairs (λ p. p.1),
    ))

pub even_or_bare : {X Y : Type 0} (list : Punctuated X Y)
    → (length (values_of list) ≡ length (separators_of list))
    ⊎ (length (values_of list) ≡ length (separators_of list) + 1)
even_or_bare list = even_or_bare_by list.inner.items list.last

kept_as_many : {X Y : Type 0} (run : List (Bool × X)) (ys : List Y) → length run ≡ length ys
    → length (kept_separators run ys) ≡ length (kept_values run)
kept_as_many [] [] e = refl
kept_as_many [] (y ∷ ys) e = absurd (omega arith)
kept_as_many (z ∷ run) [] e = absurd (omega arith)
kept_as_many ((true, x) ∷ run) (y ∷ ys) e = omega (arith, kept_as_many run ys (omega arith))
kept_as_many ((false, x) ∷ run) (y ∷ ys) e = kept_as_many run ys (omega arith)

kept_one_fewer : {X Y : Type 0} (run : List (Bool × X)) (ys : List Y) → length run ≡ length ys + 1
    → length (kept_values run) ≤ length (kept_separators run ys) + 1
kept_one_fewer [] ys e = omega arith
kept_one_fewer ((true, x) ∷ []) [] e = omega arith
kept_one_fewer ((false, x) ∷ []) [] e = omega arith
kept_one_fewer (z ∷ w ∷ run) [] e = absurd (omega arith)
kept_one_fewer ((true, x) ∷ run) (y ∷ ys) e = omega (arith, kept_one_fewer run ys (omega arith))
kept_one_fewer ((false, x) ∷ run) (y ∷ ys) e = kept_one_fewer run ys (omega arith)

kept_at_most : {X : Type 0} (run : List (Bool × X)) → length (kept_values run) ≤ length run
kept_at_most [] = omega arith
kept_at_most ((true, x) ∷ run) = omega (arith, kept_at_most run)
kept_at_most ((false, x) ∷ run) = omega (arith, kept_at_most run)

module _ {S X Y : Type 0} (R : S → X → Bool → S → X
    → Type 0) (s : S) (old new : Punctuated X Y) (h : Retains R s old new)
    (some : 0 < length (values_of new)) where
  run_long : length h.run ≡ length (values_of old)
  run_long = runs_long R s (values_of old) h.run h.ends h.runs

  values_long : length (values_of new) ≡ length (kept_values h.run)
  values_long = ap length h.values

  pub retains_trailing_punct : is_trailing new ≡ is_trailing old
  retains_trailing_punct =
      grind (
        arith,
        even_or_bare,
        values_long,
        kept_as_many,
        run_long,
        kept_at_most,
        even_is,
        length-take-le,
        kept_one_fewer,
        bare_is,
      )
