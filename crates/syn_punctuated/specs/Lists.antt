-- A punctuated list as its values and its separators.
use Rattle.std.specs.Prelude.{◌≡◌, ℕ, ◌+◌, ◌==◌, ◌&&◌, Bool, not, length, List, [], ◌∷◌, ◌++◌, map}
use Rattle.std.specs.List.{insert}
use Rattle.syn_punctuated.specs.Private.Boxes.{boxed_values}
use Rattle.syn_punctuated.specs.declared.punctuated.Punctuated.{Punctuated}

module _ {X Y : Type 0} where
  -- the values, in order
  abbrev pub values_of : Punctuated X Y → List X
  values_of list = map (λ pair. pair.0) list.inner.items ++ boxed_values list.last

  -- the separators, in order
  abbrev pub separators_of : Punctuated X Y → List Y
  separators_of list = map (λ pair. pair.1) list.inner.items

  -- whether the list ends in a separator: it has as many as values, and isn't empty
  abbrev pub is_trailing : Punctuated X Y → Bool
  is_trailing list =
      not (length (values_of list) == 0) && (length (values_of list) == length (separators_of list))

  -- new has the values and the separators of old
  abbrev pub IsUnchanged : Punctuated X Y → Punctuated X Y → Type 0
  IsUnchanged old new = (values_of new ≡ values_of old) × (separators_of new ≡ separators_of old)

  -- a default separator was added if old ended in a bare value
  pub record AddsDefault (IsDefault : Y → Type 0) (old new : Punctuated X Y) : Type 0 where
    pub trailing : length (values_of old) ≡ length (separators_of old) →
        separators_of new ≡ separators_of old
    pub bare : length (values_of old) ≡ length (separators_of old) + 1 → (d : Y) × IsDefault d
        × (separators_of new ≡ separators_of old ++ d ∷ [])

  -- a default separator was put at index
  abbrev pub InsertsDefault : (Y → Type 0) → ℕ → Punctuated X Y → Punctuated X Y → Type 0
  InsertsDefault IsDefault index old new =
      (d : Y) × IsDefault d × (separators_of new ≡ insert (separators_of old) index d)
