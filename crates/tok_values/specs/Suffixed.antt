-- The values of literals, raw or not, with a suffix or without one (Rust Reference: Tokens,
-- Suffixes).
use Rattle.std.specs.Ffi.{HasNoNul}
use Rattle.std.specs.Prelude.{◌≡◌, ◌⊎◌, ◌||◌, ◌&&◌, ℕ, Bool, List, ◌++◌, true, false, Option}
use Rattle.tok_lexical.specs.Ascii.{lower_b, lower_c, lower_r, quote}
use Rattle.tok_lexical.specs.Pieces.{After, after_first, begins_with}
use Rattle.tok_lexical.specs.Words.{IsSuffix}
use Rattle.tok_values.specs.CStrings.{c_unit}
use Rattle.tok_values.specs.RawStrings.{IsRawStringValue}
use Rattle.tok_values.specs.Strings.{InApostrophes, InQuotes, IsQuotedValue, unit}

-- a raw string with a suffix or nothing after it, and what is between its quotes
abbrev pub InRaw : (text value : List ℕ) → Type 0
InRaw text value =
    (raw : List ℕ) × (suffix : List ℕ) × (text ≡ raw ++ suffix) × IsRawStringValue raw value
    × IsSuffix suffix

-- after its prefix, a string, raw or not, and the bytes that it means
abbrev pub IsStringBy : (List ℕ → Option (List ℕ × List ℕ)) → (text bytes : List ℕ) → Type 0
IsStringBy means text bytes = InQuotes IsSuffix means text bytes ⊎ InRaw text bytes

-- the text begins with a quote or `r`, as a string does
abbrev pub begins_string : List ℕ → Bool
begins_string text = begins_with quote text || begins_with lower_r text

-- the text begins with this prefix, and the rest of the text begins as a string does
abbrev pub begins_prefixed : (prefix : ℕ) → List ℕ → Bool
begins_prefixed prefix text = begins_with prefix text && begins_string (after_first text)

-- a string literal and its value, in UTF-8
abbrev pub IsStrValue : (text value : List ℕ) → Type 0
IsStrValue text value = IsQuotedValue IsSuffix text value ⊎ InRaw text value

-- a byte string literal and its value
abbrev pub IsByteStrValue : (text value : List ℕ) → Type 0
IsByteStrValue text value =
    After lower_b (λ string. IsStringBy (unit true) string value) text

-- a C string literal and its value, without the zero at its end
abbrev pub IsCStrValue : (text value : List ℕ) → Type 0
IsCStrValue text value =
    After lower_c (λ string. IsStringBy c_unit string value) text × HasNoNul value

-- a character literal and its value
abbrev pub IsCharacterValue : List ℕ → (c : ℕ) → Type 0
IsCharacterValue = InApostrophes IsSuffix false

-- a byte literal and its value
abbrev pub IsByteCharacterValue : List ℕ → (byte : ℕ) → Type 0
IsByteCharacterValue text byte =
    After lower_b (λ quoted. InApostrophes IsSuffix true quoted byte) text
