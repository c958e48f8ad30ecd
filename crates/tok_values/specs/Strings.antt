-- What quoted literals mean (Rust Reference: Tokens, Character literals; String literals; Byte
-- literals; Byte string literals).
use Rattle.std.specs.Prelude.{◌≡◌, ℕ, ◌==◌, ◌||◌, ◌&&◌, not, nat_le, List, [], ◌∷◌, ◌++◌, Bool, true, false}
use Rattle.std.specs.Prelude.{Option, None, Some, MatchOption, encode_utf8_all, if◌then◌else◌}
use Rattle.std.specs.Prelude.{bytes_eq, codes}
use Rattle.std.specs.Borrow.{Bor}
use Rattle.std.specs.Str.{chars}
use Rattle.tok_lexical.specs.Ascii.{apostrophe, backslash, carriage_return, line_feed, lower_b}
use Rattle.tok_lexical.specs.Ascii.{quote, space, tab}
use Rattle.tok_lexical.specs.Pieces.{After, after_first, begins_with}
use Rattle.tok_lexical.specs.Strings.{is_char}
use Rattle.tok_values.specs.Escapes.{escape}

-- what a line that goes on skips: space, tab, line feed, carriage return
abbrev pub is_blank : ℕ → Bool
is_blank c = (c == space) || ((c == tab) || ((c == line_feed) || (c == carriage_return)))

-- the text after the blanks at its front
abbrev pub without_blanks : List ℕ → List ℕ
without_blanks [] = []
without_blanks (c ∷ rest) = if is_blank c then without_blanks rest else c ∷ rest

-- a line feed, perhaps with a carriage return before it
abbrev pub ends_line : List ℕ → Bool
ends_line text =
    begins_with line_feed text
    || (begins_with carriage_return text && begins_with line_feed (after_first text))

-- one character, and the text after it
abbrev pub alone : Option (ℕ × List ℕ) → Option (List ℕ × List ℕ)
alone None = None
alone (Some (c, rest)) = Some (c ∷ [], rest)

-- after a `\`: an escape, or the end of a line, which means nothing, nor do the blanks after it
abbrev pub past_escape : (wide : Bool) → List ℕ → Option (List ℕ × List ℕ)
past_escape wide text =
    if ends_line text then Some ([], without_blanks text) else alone (escape wide text)

-- after a carriage return: the line feed that both mean
abbrev pub after_return : List ℕ → Option (List ℕ × List ℕ)
after_return text =
    if begins_with line_feed text then Some (line_feed ∷ [], after_first text) else None

-- the front of a text in quotes: the characters that it means, and the text after it; none before a
-- quote, nor before what may not be in a string. In bytes characters are ASCII.
abbrev pub unit : (wide : Bool) → List ℕ → Option (List ℕ × List ℕ)
unit wide [] = None
unit wide (c ∷ rest) =
    if c == backslash then past_escape wide rest else
    if c == quote then None else
    if c == carriage_return then after_return rest else
    if wide && nat_le 128 c then None else Some (c ∷ [], rest)

-- one unit after another: up to the rest, the text means all that its units mean
pub data MeansBy (means : List ℕ → Option (List ℕ × List ℕ)) :
    (text rest meaning : List ℕ) → Type 0 where
  nothing : (text : List ℕ) → MeansBy means text text []
  more : (text after rest front meaning : List ℕ) → means text ≡ Some (front, after)
      → MeansBy means after rest meaning → MeansBy means text rest (front ++ meaning)

-- up to the rest, the text means these characters
abbrev pub Means : (wide : Bool) → (text rest characters : List ℕ) → Type 0
Means wide = MeansBy (unit wide)

-- nothing is left
abbrev pub IsNothing : List ℕ → Type 0
IsNothing text = text ≡ []

-- a quote, units, and a quote with such a text after it
abbrev pub InQuotes : (Tail : List ℕ → Type 0) → (List ℕ → Option (List ℕ × List ℕ)) →
    (text meaning : List ℕ) → Type 0
InQuotes Tail means text meaning =
    After quote (λ inner.
    (rest : List ℕ) × MeansBy means inner rest meaning × After quote Tail rest) text

-- a string literal that is not raw, and its value in UTF-8
abbrev pub IsQuotedValue : (Tail : List ℕ → Type 0) → (text value : List ℕ) → Type 0
IsQuotedValue Tail text value =
    (characters : List ℕ) × InQuotes Tail (unit false) text characters
    × (value ≡ encode_utf8_all characters)

-- a string literal without a suffix, and its value
abbrev pub IsStringValue : (text value : List ℕ) → Type 0
IsStringValue = IsQuotedValue IsNothing

-- a byte string literal without a suffix, and its value
abbrev pub IsBytesValue : (text value : List ℕ) → Type 0
IsBytesValue text value =
    After lower_b (λ quoted. InQuotes IsNothing (unit true) quoted value) text

-- one character or one escape, and the text after it
abbrev pub one_char : (wide : Bool) → List ℕ → Option (ℕ × List ℕ)
one_char wide [] = None
one_char wide (c ∷ rest) =
    if c == backslash then escape wide rest else
    if is_char c && not (wide && nat_le 128 c) then Some (c, rest) else None

-- an apostrophe, one character, and an apostrophe with such a text after it
abbrev pub InApostrophes : (Tail : List ℕ → Type 0) → (wide : Bool) → List ℕ → (c : ℕ) → Type 0
InApostrophes Tail wide text c =
    After apostrophe (λ inner.
    (rest : List ℕ) × (one_char wide inner ≡ Some (c, rest)) × After apostrophe Tail rest) text

-- a character literal without a suffix, and its value
abbrev pub IsCharValue : List ℕ → (c : ℕ) → Type 0
IsCharValue = InApostrophes IsNothing false

-- a byte literal without a suffix, and its value
abbrev pub IsByteValue : List ℕ → (byte : ℕ) → Type 0
IsByteValue text byte = After lower_b (λ quoted. InApostrophes IsNothing true quoted byte) text

-- `true` and `false`, by their bytes
abbrev pub bool_of : List ℕ → Option Bool
bool_of text =
    if bytes_eq text (codes "true") then Some true else
    if bytes_eq text (codes "false") then Some false else None

-- the characters of a unit
abbrev pub characters_of : Option ℕ → List ℕ
characters_of None = []
characters_of (Some c) = c ∷ []

-- what a function that looks for a unit returns
abbrev pub FindsUnit : Option (List ℕ × List ℕ) → Option (Option ℕ × Bor (List ℕ)) → Type 0
FindsUnit wanted answer =
    MatchOption answer (wanted ≡ None) (λ r. wanted ≡ Some (characters_of r.0, chars r.1.now))
