-- What a peek looks for at a place, and how it is called.
use Rattle.std.specs.Prelude.{◌≡◌, ℕ, Bool, List, Option, is_some}
use Rattle.tok_buffer.specs.Place.{Place}

-- a peek is true if and only if something is read
abbrev pub PeeksFor : {A : Type 0} → (Place → Option A) → Place → Bool → Type 0
PeeksFor read p found = found ≡ is_some (read p)

-- the text is the wanted one
abbrev pub IsText : List ℕ → List ℕ → Type 0
IsText wanted text = text ≡ wanted
