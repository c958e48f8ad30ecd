-- What holds of all values of a type of tokens, and of what is looked for nowhere.
use Rattle.std.specs.Prelude.{◌≡◌, ℕ, Bool, true, false, List, [], Option, is_some}
use Rattle.tok_buffer.specs.Place.{Place}
use Rattle.tok_types.specs.Texts.{in_backquotes}

-- any two values are equal
abbrev pub AreEqual : {A : Type 0} → (A → A → Bool) → Type 0
AreEqual {A} equal = (left right : A) → equal left right ≡ true

-- no value writes anything to a hasher
abbrev pub WriteNothing : {A : Type 0} → (A → List (List ℕ)) → Type 0
WriteNothing {A} written = (value : A) → written value ≡ []

-- a peek is false, wherever it looks
abbrev pub IsNeverFound : (Place → Bool → Type 0) → Type 0
IsNeverFound peeks = (place : Place) (found : Bool) → peeks place found → found ≡ false

-- a token of this text is called by it in errors, in backquotes
abbrev pub HasText : List ℕ → (List ℕ → Type 0) → Type 0
HasText text shown = (name : List ℕ) → shown name → name ≡ in_backquotes text

-- a peek is true if and only if this is read at its place
abbrev pub IsFound : {A : Type 0} → (Place → Option A) → (Place → Bool → Type 0) → Type 0
IsFound read peeks =
    (place : Place) (found : Bool) → peeks place found → found ≡ is_some (read place)
