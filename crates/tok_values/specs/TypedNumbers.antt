-- Texts of numbers whose suffix names a type of their kind (Rust Reference: Tokens, Integer
-- literals; Floating-point literals).
use Rattle.std.specs.Prelude.{◌≡◌, ◌⊎◌, ℕ, List, true, false, None, Some, codes}
use Rattle.std.specs.Float.{Float}
use Rattle.std.specs.Str.{chars}
use Rattle.tok_lexical.specs.Numbers.{starts_digit}
use Rattle.tok_leaves.specs.Literals.{IsOneLiteral, begins_with_sign}
use Rattle.tok_values.specs.Floats.{float_value}
use Rattle.tok_values.specs.Integers.{IsInteger, IsIntegerSuffix}
use Rattle.tok_values.specs.declared.numbers.NumberFault.{NumberFault}
use Rattle.tok_values.specs.declared.numbers.NumberFault.TheVariants.{Sign, NotNumber, Suffix}
use Rattle.tok_values.specs.declared.numbers.NumberFault.TheVariants.{Memory}

-- one literal that begins with a digit: an integer or a float, whatever its suffix
abbrev pub IsNumberText : List ℕ → Type 0
IsNumberText text = IsOneLiteral text × (starts_digit text ≡ true)

-- an integer without a suffix, or with the name of a type of integers
abbrev pub IsTypedInteger : List ℕ → Type 0
IsTypedInteger text =
    (value : ℕ) × (suffix : List ℕ) × IsInteger text value suffix × IsIntegerSuffix suffix

-- a text, as bytes, that has a value as a float: its suffix is none, `f32` or `f64`
abbrev pub HasFloatValue : List ℕ → Type 0
HasFloatValue bytes = (value : Float) × (float_value bytes ≡ Some value)

-- a number, as bytes, that is an integer with no suffix or that of a type of integers, or that has
-- a value as a float
abbrev pub IsTypedNumber : List ℕ → Type 0
IsTypedNumber bytes =
    IsNumberText (chars bytes) × (IsTypedInteger (chars bytes) ⊎ HasFloatValue bytes)

-- why a text, as bytes, is no such number; an allocation failure says nothing of it
abbrev pub IsNumberFault : List ℕ → NumberFault → Type 0
IsNumberFault bytes Sign = begins_with_sign (chars bytes) ≡ true
IsNumberFault bytes NotNumber =
    (begins_with_sign (chars bytes) ≡ false) × (IsNumberText (chars bytes) → ⊥)
IsNumberFault bytes Suffix =
    IsNumberText (chars bytes) × (IsTypedInteger (chars bytes) → ⊥) × (float_value bytes ≡ None)
IsNumberFault bytes Memory = ⊥

-- the words of each reason
abbrev pub number_fault_words : NumberFault → List ℕ
number_fault_words Sign = codes "begins with a sign, which is a punct of its own"
number_fault_words NotNumber = codes "not exactly one integer or float"
number_fault_words Suffix = codes "the suffix names no type of such a number"
number_fault_words Memory = codes "out of memory"
