-- How values of a type are compared, ordered, hashed and cloned.
use Rattle.std.specs.Prelude.{◌≡◌, ◌↔◌, ℕ, Bool, true, List, Option, Some}
use Rattle.std.specs.declared.cmp.Ordering.{Ordering}
use Rattle.std.specs.declared.cmp.Ordering.TheVariants.{Equal}
use Rattle.tok_lexical.specs.declared.edition.Edition.{Edition}
use Rattle.tok_lexical.specs.declared.edition.Edition.TheVariants.{Edition2015, Edition2018}
use Rattle.tok_lexical.specs.declared.edition.Edition.TheVariants.{Edition2021, Edition2024}

-- what a value shows, as its text
module _ {A B : Type 0} (shown : A → B) where
  -- two values are equal if and only if they show the same
  abbrev pub EqualBy : (A → A → Bool) → Type 0
  EqualBy equal = (left right : A) → (equal left right ≡ true) ↔ (shown left ≡ shown right)

  -- they are in the order of what they show
  abbrev pub OrderedBy : (B → B → Ordering) → (A → A → Ordering) → Type 0
  OrderedBy order compare =
      (left right : A) → compare left right ≡ order (shown left) (shown right)

  -- a value feeds a hasher what it shows, and nothing else; so equal values feed it alike
  abbrev pub HashedBy : (B → List (List ℕ)) → (A → List (List ℕ)) → Type 0
  HashedBy input feeds = (value : A) → feeds value ≡ input (shown value)

-- two values are equal if and only if they are the same
abbrev pub EqualAsValues : {A : Type 0} → (A → A → Bool) → Type 0
EqualAsValues {A} equal = (left right : A) → (equal left right ≡ true) ↔ (left ≡ right)

-- a clone is the value that was cloned
abbrev pub ClonesKeep : {A : Type 0} → (A → A → Type 0) → Type 0
ClonesKeep {A} is_clone = (value clone : A) → is_clone value clone → clone ≡ value

-- two values are equal if and only if neither comes first, and any two are in order
abbrev pub OrderAgrees : {A : Type 0} → (A → A → Bool) → (A → A → Ordering) →
    (A → A → Option Ordering) → Type 0
OrderAgrees {A} equal compare partial =
    (left right : A) → ((equal left right ≡ true) ↔ (compare left right ≡ Equal))
    × (partial left right ≡ Some (compare left right))

-- an edition's number, in the order of years
abbrev pub edition_number : Edition → ℕ
edition_number Edition2015 = 0
edition_number Edition2018 = 1
edition_number Edition2021 = 2
edition_number Edition2024 = 3
