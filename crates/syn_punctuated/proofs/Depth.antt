-- How deep the values of a list may lie, for a recursion over a type that holds lists of itself.
use Rattle.std.specs.Prelude.{◌≡◌, ℕ, max, List, [], ◌∷◌, map, Option, None, Some}
use Rattle.std.proofs.Common.{arith, refl}
use Rattle.std.specs.Global.{Box}
use denote.Param.Weighed.{most, most-append}
use Rattle.syn_punctuated.specs.declared.punctuated.Punctuated.{Punctuated}
use Rattle.syn_punctuated.specs.Lists.{values_of}
use Rattle.syn_punctuated.specs.Private.Boxes.{boxed_values}

module _ {X : Type 0} (μ : X → ℕ) where
  pub most_first : {Y : Type 0} (pairs : List (X × Y))
      → most μ (map (λ pair. pair.0) pairs) ≡ most (λ pair. max (μ pair.0) 0) pairs
  most_first [] = refl
  most_first (p ∷ ps) = omega (arith, most_first ps)

  -- the depth of a bare last value
  abbrev pub deepest_last : Option (Box X) → ℕ
  deepest_last None = 0
  deepest_last (Some value) = max (μ value.value) 0

  pub last_most : (last : Option (Box X)) → most μ (boxed_values last) ≡ deepest_last last
  last_most last = grind arith

module _ {X Y : Type 0} (μ : X → ℕ) where
  -- the deepest value, as a recursive type that holds the list counts it
  abbrev pub deepest_value : Punctuated X Y → ℕ
  deepest_value list =
      max (most (λ pair. max (μ pair.0) 0) list.inner.items) (max (deepest_last μ list.last) 0)

  pub most_values : (list : Punctuated X Y) → most μ (values_of list) ≡ deepest_value list
  most_values list =
      omega (
        arith,
        most-append μ (map (λ pair. pair.0) list.inner.items) (boxed_values list.last),
        most_first μ list.inner.items,
        last_most μ list.last,
      )
