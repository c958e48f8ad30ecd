-- Equality of two lists: by their fields, and by their values and separators.
use Rattle.std.proofs.Common.{arith}
use Rattle.std.proofs.Common.{◌≡◌, ◌&&◌, Bool, true, false, List, [], ◌∷◌, ◌++◌, map, Option, None}
use Rattle.std.proofs.Common.{Some, refl}
use Rattle.std.specs.Cmp.Lexicographic.{pointwise}
use Rattle.std.specs.Global.{Box}
use Rattle.std.specs.Option.{option_eq}
use Rattle.syn_punctuated.specs.Private.Boxes.{boxed_values}

and-true-true : (a : Bool) → a ≡ ((a && true) && true)
and-true-true a = grind arith

regroup : (a b pairs last values separators : Bool) → (pairs && last) ≡ (values && separators)
    → (((a && b) && pairs) && last) ≡ ((a && values) && (b && separators))
regroup a b pairs last values separators h = grind arith

false-and-false : (a : Bool) → false ≡ (a && false)
false-and-false a = grind arith

module _ {X Y : Type 0} (E : X → X → Bool) (F : Y → Y → Bool) where
  pub equal_by_lists : (ps qs : List (X × Y)) (v w : Option (Box X))
      → (pointwise (λ p q. E p.0 q.0 && F p.1 q.1) ps qs
      && option_eq (λ x y. E x.value y.value) v w)
      ≡ (pointwise E (map (λ p. p.0) ps ++ boxed_values v) (map (λ q. q.0) qs ++ boxed_values w)
      && pointwise F (map (λ p. p.1) ps) (map (λ q. q.1) qs))
  equal_by_lists [] [] None None = refl
  equal_by_lists [] [] None (Some w) = refl
  equal_by_lists [] [] (Some v) None = refl
  equal_by_lists [] [] (Some v) (Some w) = and-true-true (E v.value w.value)
  equal_by_lists [] (q ∷ qs) v w = grind (arith, false-and-false)
  equal_by_lists (p ∷ ps) [] v w = grind (arith, false-and-false)
  equal_by_lists (p ∷ ps) (q ∷ qs) v w = grind (arith, regroup, equal_by_lists ps qs v w)
