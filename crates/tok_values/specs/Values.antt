-- The values of strings and integers as functions of their texts.
use Rattle.std.specs.Prelude.{◌≡◌, ◌↔◌, ◌≤◌, ◌^◌, ℕ, zero, suc, ◌==◌, ◌&&◌, Bool, true, false}
use Rattle.std.specs.Prelude.{List, [], ◌∷◌, ◌++◌, Result, Ok, Err, MatchOption}
use Rattle.std.specs.Prelude.{Option, None, Some, option_map, length, encode_utf8_all}
use Rattle.std.specs.Prelude.{if◌then◌else◌}
use Rattle.std.specs.List.{list_all}
use Rattle.std.specs.Str.{chars}
use Rattle.unicode_ident.specs.Ident.{is_xid_continue}
use Rattle.tok_lexical.specs.Ascii.{quote}
use Rattle.tok_lexical.specs.Numbers.{has_digit, is_digit_or_underscore, starts_digit}
use Rattle.tok_lexical.specs.Numbers.{starts_number_suffix}
use Rattle.tok_lexical.specs.Words.{is_identifier_start}
use Rattle.tok_values.specs.Integers.{IsInteger, base_of}
use Rattle.tok_values.specs.Numbers.{number}
use Rattle.tok_values.specs.Strings.{IsStringValue, unit}
use Rattle.tok_values.specs.declared.integers.Integer.{Integer}
use Rattle.tok_values.specs.declared.integers.IntegerFault.{IntegerFault}
use Rattle.tok_values.specs.declared.integers.IntegerFault.TheVariants.{NotInteger, TooLarge}

-- a quote and nothing after it
abbrev pub is_quote : List ℕ → Bool
is_quote [] = false
is_quote (c ∷ []) = c == quote
is_quote (c ∷ d ∷ rest) = false

-- what a unit means, and after it what the rest of the text does
abbrev pub and_rest_of : (List ℕ → Option (List ℕ)) → Option (List ℕ × List ℕ) → Option (List ℕ)
and_rest_of rest None = None
and_rest_of rest (Some p) = option_map (λ characters. p.0 ++ characters) (rest p.1)

-- what units mean up to a quote at the end of the text; at most so many units
abbrev pub up_to_quote : (most : ℕ) → List ℕ → Option (List ℕ)
up_to_quote zero text = None
up_to_quote (suc most) text =
    if is_quote text then Some [] else and_rest_of (up_to_quote most) (unit false text)

-- the characters of a string literal without a suffix
abbrev pub characters_in_quotes : List ℕ → Option (List ℕ)
characters_in_quotes [] = None
characters_in_quotes (c ∷ inner) =
    if c == quote then up_to_quote (length inner) inner else None

-- the value of a string literal without a suffix, in UTF-8
unfoldable pub string_value : List ℕ → Option (List ℕ)
string_value text = option_map encode_utf8_all (characters_in_quotes text)

-- the longest front of characters that pass, and what is after it
abbrev pub split : (ℕ → Bool) → List ℕ → List ℕ × List ℕ
split p [] = ([], [])
split p (c ∷ text) = if p c then (c ∷ (split p text).0, (split p text).1) else ([], c ∷ text)

-- nothing, or an identifier that begins with none of the digits of the base, `_`, `e` and `E`
abbrev pub is_number_suffix : (radix : ℕ) → List ℕ → Bool
is_number_suffix radix [] = true
is_number_suffix radix (c ∷ text) =
    starts_number_suffix radix c && (is_identifier_start c && list_all is_xid_continue text)

-- digits of this base and a suffix
abbrev pub digits_value : (radix : ℕ) → (digits : List ℕ) → (suffix : List ℕ) → Option (ℕ × List ℕ)
digits_value radix digits suffix =
    if has_digit radix digits && is_number_suffix radix suffix
    then Some (number radix digits, suffix)
    else None

-- the number that the digits at the front write, and the suffix; `None` for any other text
abbrev pub value_in_base : (radix : ℕ) → List ℕ → Option (ℕ × List ℕ)
value_in_base radix text =
    let parts = split (is_digit_or_underscore radix) text in digits_value radix parts.0 parts.1

-- the value of an integer literal, which no type bounds, and its suffix
unfoldable pub integer_value : List ℕ → Option (ℕ × List ℕ)
integer_value text =
    if starts_digit text then value_in_base (base_of text).0 (base_of text).1 else None

-- what a function that reads an integer returns
abbrev pub HasValue : Option (ℕ × List ℕ) → Result Integer IntegerFault → Type 0
HasValue wanted (Ok i) = wanted ≡ Some (i.value, chars i.suffix.now)
HasValue wanted (Err NotInteger) = wanted ≡ None
HasValue wanted (Err TooLarge) = MatchOption wanted ⊥ (λ i. 2 ^ 64 ≤ i.0)

-- a text is the string literal of a value exactly if the function finds this value
abbrev pub StringsHaveOneValue : Type 0
StringsHaveOneValue =
    (text value : List ℕ) → IsStringValue text value ↔ (string_value text ≡ Some value)

-- a text has at most one value
abbrev pub HasOneValue : {A : Type 0} → (IsValue : List ℕ → A → Type 0) → Type 0
HasOneValue {A} IsValue = (text : List ℕ) (a b : A) → IsValue text a → IsValue text b → a ≡ b

-- the values and suffixes of integer literals
abbrev pub IntegersHaveOneValue : Type 0
IntegersHaveOneValue =
    (text : List ℕ) (value : ℕ) (suffix : List ℕ)
    → IsInteger text value suffix ↔ (integer_value text ≡ Some (value, suffix))
