-- The spellings of strings and characters (Rust Reference: Tokens, Character and string literals,
-- Escapes, Byte literals).
use Rattle.std.specs.Prelude.{◌≡◌, ◌≢◌, ℕ, ◌+◌, ◌*◌, ◌≤◌, ◌⊎◌, List, [], ◌∷◌, ◌++◌, Bool, true}
use Rattle.std.specs.Prelude.{false, ◌==◌, ◌||◌, ◌&&◌, not, nat_lt, if◌then◌else◌, fold, count_by}
use Rattle.std.specs.Char.{is_digit, digit_value, IsScalar}
use Rattle.tok_lexical.specs.Ascii.{apostrophe, backslash, carriage_return, close_brace, digit_zero}
use Rattle.tok_lexical.specs.Ascii.{line_feed, lower_b, lower_c, lower_n, lower_r, lower_t, lower_u}
use Rattle.tok_lexical.specs.Ascii.{lower_x, number_sign, open_brace, quote, tab, underscore}
use Rattle.tok_lexical.specs.Pieces.{IsOne, After, IsAll}
use Rattle.tok_lexical.specs.Words.{IsSuffix}
use Rattle.tok_lexical.specs.declared.contents.Contents.{Contents}
use Rattle.tok_lexical.specs.declared.contents.Contents.TheVariants.{Text, Bytes, C}

-- one of n r t \ 0 ' "
abbrev pub is_simple_escape : ℕ → Bool
is_simple_escape c =
    (c == lower_n) || (c == lower_r) || (c == lower_t) || (c == backslash) || (c == digit_zero)
    || (c == apostrophe) || (c == quote)

-- a hexadecimal digit, of either case
abbrev pub is_hex : ℕ → Bool
is_hex c = is_digit c 16

-- a character that may follow the first digit in the braces of `\u{}`
abbrev pub is_hex_or_underscore : ℕ → Bool
is_hex_or_underscore c = is_hex c || (c == underscore)

-- the number that the digits write, underscores aside
abbrev pub hex_value : List ℕ → ℕ
hex_value digits = fold (λ n c. if is_hex c then n * 16 + digit_value c else n) 0 digits

-- two hexadecimal digits, the first of them below this
abbrev pub IsHex : ℕ → List ℕ → Type 0
IsHex top piece =
    (high : ℕ) × (low : ℕ) × (piece ≡ high ∷ low ∷ []) × (is_digit high top ≡ true)
    × (is_hex low ≡ true)

-- the digits in the braces of `\u{}`: at most six, and they name a character
pub record NamesChar (digits : List ℕ) : Type 0 where
  pub few : count_by is_hex digits ≤ 6
  pub scalar : IsScalar (hex_value digits)

-- what follows `\u`
abbrev pub IsCode : List ℕ → Type 0
IsCode piece =
    (first : ℕ) × (digits : List ℕ) × (piece ≡ open_brace ∷ first ∷ (digits ++ close_brace ∷ []))
    × (is_hex first ≡ true) × IsAll is_hex_or_underscore digits × NamesChar (first ∷ digits)

-- a line feed, perhaps with a carriage return before it
abbrev pub IsLineEnd : List ℕ → Type 0
IsLineEnd piece = (piece ≡ line_feed ∷ []) ⊎ (piece ≡ carriage_return ∷ line_feed ∷ [])

-- What follows the backslash of an escape. A line end may stand in strings alone; after `b'` no
-- `\u` may, but `\x` goes up to FF.
pub data IsEscape (line_ends wide : Bool) : List ℕ → Type 0 where
  simple : (c : ℕ) → is_simple_escape c ≡ true → IsEscape line_ends wide (c ∷ [])
  hex : {text : List ℕ} → IsHex (if wide then 16 else 8) text →
      IsEscape line_ends wide (lower_x ∷ text)
  code : {text : List ℕ} → wide ≡ false → IsCode text → IsEscape line_ends wide (lower_u ∷ text)
  line_end : {text : List ℕ} → line_ends ≡ true → IsLineEnd text → IsEscape line_ends wide text

-- in a C string `\x` goes up to FF, and `\u` may stand too
abbrev pub IsCEscape : List ℕ → Type 0
IsCEscape text = IsEscape true true text ⊎ After lower_u IsCode text

-- the escapes of each kind of string
abbrev pub EscapeOf : Contents → List ℕ → Type 0
EscapeOf Text = IsEscape true false
EscapeOf Bytes = IsEscape true true
EscapeOf C = IsCEscape

-- one character of a string, or one escape
pub data IsUnit (contents : Contents) : List ℕ → Type 0 where
  plain : (c : ℕ) → c ≢ quote → c ≢ backslash → IsUnit contents (c ∷ [])
  escape : {text : List ℕ} → EscapeOf contents text → IsUnit contents (backslash ∷ text)

-- one unit after the other
pub data AreUnits (contents : Contents) : List ℕ → Type 0 where
  no_unit : AreUnits contents []
  unit : {first rest : List ℕ} → IsUnit contents first → AreUnits contents rest →
      AreUnits contents (first ++ rest)

-- a quote, units, a quote and a suffix
abbrev pub IsString : Contents → List ℕ → Type 0
IsString contents piece =
    (body : List ℕ) × (suffix : List ℕ) × (piece ≡ quote ∷ (body ++ quote ∷ suffix))
    × AreUnits contents body × IsSuffix suffix

-- none of ' \ tab, line feed, U+000D
abbrev pub is_char : ℕ → Bool
is_char c =
    not ((c == apostrophe) || (c == backslash) || (c == tab) || (c == line_feed)
    || (c == carriage_return))

-- an ASCII character that a byte literal may hold without an escape
abbrev pub is_byte : ℕ → Bool
is_byte c = is_char c && nat_lt c 128

-- a backslash and an escape that names one character
abbrev pub IsEscapedChar : List ℕ → Type 0
IsEscapedChar = After backslash (IsEscape false false)

-- the inside of a character literal: a character or an escape
abbrev pub IsChar : List ℕ → Type 0
IsChar inner = IsOne is_char inner ⊎ IsEscapedChar inner

-- the inside of a byte literal: an ASCII character or an escape, `\x` up to FF and no `\u`
abbrev pub IsByte : List ℕ → Type 0
IsByte inner = IsOne is_byte inner ⊎ After backslash (IsEscape false true) inner

-- an apostrophe, what is within, an apostrophe and a suffix
abbrev pub IsQuoted : (List ℕ → Type 0) → List ℕ → Type 0
IsQuoted Inner piece =
    (inner : List ℕ) × (suffix : List ℕ)
    × (piece ≡ apostrophe ∷ (inner ++ apostrophe ∷ suffix)) × Inner inner × IsSuffix suffix

-- any number of # and a quote
abbrev pub IsHashes : List ℕ → Type 0
IsHashes piece =
    (hashes : List ℕ) × (piece ≡ hashes ++ quote ∷ []) × IsAll (λ c. c == number_sign) hashes

-- the start of a byte or C string, or of a raw one, after `b` or `c`
abbrev pub IsPrefixed : List ℕ → Type 0
IsPrefixed piece = (piece ≡ quote ∷ []) ⊎ After lower_r IsHashes piece

-- the start of a raw string, or of one with this prefix: `r`, `br` or `cr`, any number of # and a
-- quote; or `b` or `c` and a quote
abbrev pub IsPrefixOf : Contents → List ℕ → Type 0
IsPrefixOf Text = After lower_r IsHashes
IsPrefixOf Bytes = After lower_b IsPrefixed
IsPrefixOf C = After lower_c IsPrefixed

-- any of these
abbrev pub IsStringPrefix : List ℕ → Type 0
IsStringPrefix piece = IsPrefixOf Text piece ⊎ (IsPrefixOf Bytes piece ⊎ IsPrefixOf C piece)
