-- What it is to take a piece off the front of a text. Texts are lists of characters, and a spelling
-- is a fact on whole texts.
use Rattle.std.specs.Prelude.{◌≡◌, ◌==◌, ◌||◌, not, if◌then◌else◌, ℕ, List, [], ◌∷◌, ◌++◌, Bool, true, false}
use Rattle.std.specs.Prelude.{Option, MatchOption}
use Rattle.std.specs.List.{list_all}
use Rattle.std.specs.Str.{chars}
use Rattle.std.specs.Borrow.{Bor}

-- some front of the text is spelled so
abbrev pub HasPrefix : (List ℕ → Type 0) → List ℕ → Type 0
HasPrefix Spelled text = (piece : List ℕ) × (rest : List ℕ) × (text ≡ piece ++ rest) × Spelled piece

-- this front of the text is spelled so, and no longer one is
pub record IsLongestPrefix (Spelled : List ℕ → Type 0) (text piece rest : List ℕ) : Type 0 where
  pub cut : text ≡ piece ++ rest
  pub spelled : Spelled piece
  pub longest : (more : List ℕ) (after : List ℕ) → rest ≡ more ++ after → Spelled (piece ++ more) →
      more ≡ []

-- one character that passes
abbrev pub IsOne : (ℕ → Bool) → List ℕ → Type 0
IsOne p piece = (c : ℕ) × (p c ≡ true) × (piece ≡ c ∷ [])

-- this character, and after it a text that is spelled so
abbrev pub After : ℕ → (List ℕ → Type 0) → List ℕ → Type 0
After c Spelled piece = (more : List ℕ) × (piece ≡ c ∷ more) × Spelled more

-- characters that pass
abbrev pub IsAll : (ℕ → Bool) → List ℕ → Type 0
IsAll p piece = list_all p piece ≡ true

-- the result of a function that tries a spelling: the text after the piece, or `None` if no front
-- is spelled so
abbrev pub ReadsLongest : (List ℕ → Type 0) → List ℕ → Option (Bor (List ℕ)) → Type 0
ReadsLongest Spelled text answer =
    MatchOption answer (HasPrefix Spelled text → ⊥)
    (λ rest. (piece : List ℕ) × IsLongestPrefix Spelled text piece (chars rest.now))

-- neither of two characters
abbrev pub is_neither : ℕ → ℕ → ℕ → Bool
is_neither a b c = not ((c == a) || (c == b))

-- the text begins with this character
abbrev pub begins_with : ℕ → List ℕ → Bool
begins_with a [] = false
begins_with a (c ∷ text) = c == a

-- the text doesn't begin with a character that passes
abbrev pub Stops : (ℕ → Bool) → List ℕ → Type 0
Stops p [] = Unit {0}
Stops p (c ∷ text) = p c ≡ false

-- rest is what is left of the text after the longest front of characters that pass
pub record Skips (p : ℕ → Bool) (text front rest : List ℕ) : Type 0 where
  pub cut : text ≡ front ++ rest
  pub pass : list_all p front ≡ true
  pub stops : Stops p rest

-- what follows the first character
abbrev pub after_first : List ℕ → List ℕ
after_first [] = []
after_first (c ∷ rest) = rest

-- up to the first of these characters
abbrev pub up_to : ℕ → List ℕ → List ℕ
up_to a [] = []
up_to a (c ∷ rest) = if c == a then [] else c ∷ up_to a rest

-- the first of these characters and what follows it
abbrev pub from_first : ℕ → List ℕ → List ℕ
from_first a [] = []
from_first a (c ∷ rest) = if c == a then c ∷ rest else from_first a rest
