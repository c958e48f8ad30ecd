-- What a list feeds to a hasher: by its fields, and by its values and separators.
use Rattle.std.proofs.Common.{arith}
use Rattle.std.proofs.Common.{◌≡◌, ap, refl, List, [], ◌∷◌, ◌++◌, map, length, Option}
use Rattle.std.proofs.Common.{None, Some}
use Rattle.std.specs.Global.{Box}
use Rattle.std.specs.Hash as fed
use Rattle.std.specs.Hash.{HashWrites}
use Rattle.std.specs.List.{zip}
use Rattle.std.specs.Prelude.{option_map, slice_get}
use Rattle.syn_punctuated.specs.Private.Boxes.{boxed_values}
use Rattle.syn_punctuated.specs.Hashed.{list_input}
use Rattle.syn_punctuated.specs.declared.punctuated.Punctuated.{Punctuated}

option-boxed : {X : Type 0} (value : X → HashWrites) (last : Option (Box X))
    → fed.option (λ b. value b.value) last ≡ fed.option value (option_map (λ b. b.value) last)
option-boxed value last = grind arith

module _ {X Y : Type 0} where
  zip-pairs : (ps : List (X × Y)) (last : Option (Box X))
      → zip (map (λ p. p.0) ps ++ boxed_values last) (map (λ p. p.1) ps) ≡ ps
  zip-pairs [] None = refl
  zip-pairs [] (Some last) = refl
  zip-pairs (p ∷ ps) last = ap (λ qs. p ∷ qs) (zip-pairs ps last)

  bare : (ps : List (X × Y)) (last : Option (Box X))
      → slice_get (map (λ p. p.0) ps ++ boxed_values last) (length (map (λ p. p.1) ps))
      ≡ option_map (λ b. b.value) last
  bare [] None = refl
  bare [] (Some last) = refl
  bare (p ∷ ps) last = bare ps last

  pub list_hash : (value : X → HashWrites) (separator : Y → HashWrites) (list : Punctuated X Y)
      → (fed.slice (λ p. value p.0 ++ separator p.1) list.inner.items
      ++ fed.option (λ b. value b.value) list.last) ≡ list_input value separator list
  list_hash value separator list = grind (arith, zip-pairs, option-boxed, bare)
