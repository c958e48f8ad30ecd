-- What integer literals mean (Rust Reference: Tokens, Integer literals).
use Rattle.std.specs.Prelude.{◌≡◌, ◌≤◌, ◌^◌, ◌⊎◌, ℕ, ◌==◌, ◌&&◌, List, [], ◌∷◌, true}
use Rattle.std.specs.Prelude.{if◌then◌else◌}
use Rattle.std.specs.Prelude.{Result, Ok, Err, codes}
use Rattle.std.specs.Str.{chars}
use Rattle.tok_lexical.specs.Ascii.{digit_zero, lower_b, lower_o, lower_x}
use Rattle.tok_lexical.specs.Numbers.{IsNumberSuffix, has_digit, is_digit_or_underscore, starts_digit}
use Rattle.tok_lexical.specs.Pieces.{Skips}
use Rattle.tok_leaves.specs.IntegerTypes.{integer_type_name}
use Rattle.tok_leaves.specs.declared.integer_type.IntegerType.{IntegerType}
use Rattle.tok_values.specs.Numbers.{number}
use Rattle.tok_values.specs.declared.integers.Integer.{Integer}
use Rattle.tok_values.specs.declared.integers.IntegerFault.{IntegerFault}
use Rattle.tok_values.specs.declared.integers.IntegerFault.TheVariants.{NotInteger, TooLarge}

-- the base that a number names, and what is after its name
abbrev pub base_of : List ℕ → ℕ × List ℕ
base_of [] = (10, [])
base_of (c ∷ []) = (10, c ∷ [])
base_of (c ∷ (d ∷ rest)) =
    if (c == digit_zero) && (d == lower_x) then (16, rest) else
    if (c == digit_zero) && (d == lower_o) then (8, rest) else
    if (c == digit_zero) && (d == lower_b) then (2, rest) else (10, c ∷ (d ∷ rest))

-- digits of a base with their number, perhaps with underscores, and a suffix
pub record IsDigits (radix : ℕ) (text suffix : List ℕ) (value : ℕ) : Type 0 where
  pub digits : List ℕ
  pub skips : Skips (is_digit_or_underscore radix) text digits suffix
  pub some : has_digit radix digits ≡ true
  pub ends : IsNumberSuffix radix suffix
  pub is : value ≡ number radix digits

-- an integer literal, its value and its suffix
abbrev pub IsInteger : (text : List ℕ) → (value : ℕ) → (suffix : List ℕ) → Type 0
IsInteger text value suffix =
    (starts_digit text ≡ true) × IsDigits (base_of text).0 (base_of text).1 suffix value

-- no suffix, or the name of a type of integers
abbrev pub IsIntegerSuffix : List ℕ → Type 0
IsIntegerSuffix suffix = (suffix ≡ []) ⊎ ((type : IntegerType) × (suffix ≡ integer_type_name type))

-- an integer is read; or the text is none, or one of a value that no `u64` has
abbrev pub ReadsInteger : List ℕ → Result Integer IntegerFault → Type 0
ReadsInteger text (Ok i) = IsInteger text i.value (chars i.suffix.now)
ReadsInteger text (Err NotInteger) =
    (value : ℕ) → (suffix : List ℕ) → IsInteger text value suffix → ⊥
ReadsInteger text (Err TooLarge) =
    (value : ℕ) × (suffix : List ℕ) × IsInteger text value suffix × (2 ^ 64 ≤ value)

-- why there is no value, in words
abbrev pub integer_fault_words : IntegerFault → List ℕ
integer_fault_words NotInteger = codes "expected an integer"
integer_fault_words TooLarge = codes "expected an integer below 2^64"
