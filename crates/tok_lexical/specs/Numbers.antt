-- The spellings of integers (Rust Reference: Tokens, Integer literals).
use Rattle.std.specs.Prelude.{◌≡◌, ℕ, List, [], ◌∷◌, ◌++◌, Bool, true, false, ◌==◌, ◌||◌, ◌&&◌, not}
use Rattle.std.specs.List.{list_all, list_any}
use Rattle.std.specs.Char.{is_digit}
use Rattle.tok_lexical.specs.Ascii.{digit_zero, dot, lower_b, lower_e, lower_o, lower_x, underscore}
use Rattle.tok_lexical.specs.Ascii.{upper_e}
use Rattle.tok_lexical.specs.Pieces.{After, IsAll}
use Rattle.tok_lexical.specs.Words.{IsIdentifier, is_identifier_start}
use Rattle.tok_lexical.specs.declared.numbers.Base.{Base}
use Rattle.tok_lexical.specs.declared.numbers.Base.TheVariants.{Hexadecimal, Octal, Binary}

-- the letter after the zero: `x`, `o` or `b`
abbrev pub base_mark : Base → ℕ
base_mark Hexadecimal = lower_x
base_mark Octal = lower_o
base_mark Binary = lower_b

-- the number of digits that the base has
abbrev pub radix : Base → ℕ
radix Hexadecimal = 16
radix Octal = 8
radix Binary = 2

-- a digit below the radix, or an underscore
abbrev pub is_digit_or_underscore : ℕ → ℕ → Bool
is_digit_or_underscore n c = is_digit c n || (c == underscore)

-- the text begins with `e` or `E`
abbrev pub is_exponent : List ℕ → Bool
is_exponent [] = false
is_exponent (c ∷ rest) = (c == lower_e) || (c == upper_e)

-- the text begins with a decimal digit
abbrev pub starts_digit : List ℕ → Bool
starts_digit [] = false
starts_digit (c ∷ rest) = is_digit c 10

-- a dot follows, and after it neither a dot, an underscore nor an XID_Start character
abbrev pub is_fraction : List ℕ → Bool
is_fraction [] = false
is_fraction (c ∷ []) = c == dot
is_fraction (c ∷ d ∷ rest) = (c == dot) && not ((d == dot) || is_identifier_start d)

-- what may be a suffix: it goes on neither with digits nor with an exponent
abbrev pub starts_number_suffix : ℕ → ℕ → Bool
starts_number_suffix n c = not (is_digit_or_underscore n c || ((c == lower_e) || (c == upper_e)))

-- nothing, or an identifier that begins with none of the digits of the base, `_`, `e` and `E`
abbrev pub IsNumberSuffix : ℕ → List ℕ → Type 0
IsNumberSuffix n [] = Unit {0}
IsNumberSuffix n (c ∷ rest) = (starts_number_suffix n c ≡ true) × IsIdentifier (c ∷ rest)

-- digits and underscores of which this holds, as many as there are, and what follows them
abbrev pub IsRun : ℕ → (List ℕ → Bool) → (List ℕ → Type 0) → List ℕ → Type 0
IsRun n good Tail piece =
    (digits : List ℕ) × (tail : List ℕ) × (piece ≡ digits ++ tail)
    × IsAll (is_digit_or_underscore n) digits × (good digits ≡ true) × Tail tail

-- digits and underscores of which this holds, and a suffix after them
abbrev pub IsNumber : ℕ → (List ℕ → Bool) → List ℕ → Type 0
IsNumber n good = IsRun n good (IsNumberSuffix n)

-- a digit below the radix is among the characters, so that they aren't underscores alone
abbrev pub has_digit : ℕ → List ℕ → Bool
has_digit n digits = list_any (λ c. is_digit c n) digits

-- `0x`, `0o` or `0b`, digits and underscores with a digit among them, and a suffix
abbrev pub IsBased : Base → List ℕ → Type 0
IsBased base =
    After digit_zero (After (base_mark base) (IsNumber (radix base) (has_digit (radix base))))

-- a decimal digit, any digits and underscores after it, and a suffix
abbrev pub IsDecimal : List ℕ → Type 0
IsDecimal = IsNumber 10 starts_digit

-- digits with no suffix
abbrev pub is_bare : ℕ → List ℕ → Bool
is_bare n digits = list_all (is_digit_or_underscore n) digits

-- what follows the zero and the letter
abbrev pub digits_of : List ℕ → List ℕ
digits_of [] = []
digits_of (c ∷ []) = []
digits_of (c ∷ d ∷ digits) = digits

-- digits of a base with no suffix, directly before `e` or `E`, a decimal digit or a fraction
abbrev pub is_malformed : Base → List ℕ → List ℕ → Bool
is_malformed base piece after =
    is_bare (radix base) (digits_of piece)
    && (is_exponent after || (starts_digit after || is_fraction after))

-- decimal digits with no suffix, directly before `e` or `E`, or before a fraction
abbrev pub is_float : List ℕ → List ℕ → Bool
is_float piece after = is_bare 10 piece && (is_exponent after || is_fraction after)
