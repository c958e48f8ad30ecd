-- The spellings of floats (Rust Reference: Tokens, Floating-point literals).
use Rattle.std.specs.Prelude.{◌≡◌, ℕ, List, [], ◌∷◌, ◌⊎◌, true, false}
use Rattle.tok_lexical.specs.Ascii.{dot, minus, plus}
use Rattle.tok_lexical.specs.Pieces.{After}
use Rattle.tok_lexical.specs.Words.{IsIdentifier}
use Rattle.tok_lexical.specs.Numbers.{is_digit_or_underscore, is_exponent, starts_digit, has_digit}
use Rattle.tok_lexical.specs.Numbers.{IsRun, IsDecimal}

-- nothing, or an identifier that begins with neither a digit nor an underscore
abbrev pub IsExponentSuffix : List ℕ → Type 0
IsExponentSuffix [] = Unit {0}
IsExponentSuffix (c ∷ rest) = (is_digit_or_underscore 10 c ≡ false) × IsIdentifier (c ∷ rest)

-- digits and underscores, a digit among them, and a suffix
abbrev pub IsExponentDigits : List ℕ → Type 0
IsExponentDigits = IsRun 10 (has_digit 10) IsExponentSuffix

-- the part of an exponent after its letter: a sign or none, digits and a suffix
abbrev pub IsSigned : List ℕ → Type 0
IsSigned piece = After plus IsExponentDigits piece
    ⊎ (After minus IsExponentDigits piece ⊎ IsExponentDigits piece)

-- `e` or `E`, a sign or none, digits and a suffix
abbrev pub IsExponent : List ℕ → Type 0
IsExponent [] = ⊥
IsExponent (c ∷ more) = (is_exponent (c ∷ more) ≡ true) × IsSigned more

-- digits, and an exponent directly after
abbrev pub IsScaled : List ℕ → Type 0
IsScaled = IsRun 10 starts_digit IsExponent

-- what follows the dot of a float
abbrev pub IsFraction : List ℕ → Type 0
IsFraction piece = IsScaled piece ⊎ IsDecimal piece

-- the part of a float after its first digits: a dot and a fraction, or an exponent
abbrev pub IsFloatTail : List ℕ → Type 0
IsFloatTail piece = After dot IsFraction piece ⊎ IsExponent piece

-- digits, and a dot and digits, an exponent or both; and a suffix, which after a fraction with no
-- exponent begins with neither `e` nor `E`
abbrev pub IsFloat : List ℕ → Type 0
IsFloat = IsRun 10 starts_digit IsFloatTail

-- digits and a dot
abbrev pub IsPointed : List ℕ → Type 0
IsPointed = IsRun 10 starts_digit (λ tail. tail ≡ dot ∷ [])
