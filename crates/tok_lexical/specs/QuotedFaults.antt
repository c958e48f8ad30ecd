-- What is wrong with a quoted literal, and at which of its bytes (Rust Reference: Tokens, Character
-- and string literals; Byte and byte string literals; C string literals; Raw string literals).
use Rattle.std.specs.Prelude.{◌≡◌, ◌⊎◌, ◌==◌, if◌then◌else◌, ℕ, List, [], ◌∷◌, ◌++◌, codes}
use Rattle.std.specs.Prelude.{◌≤◌, ◌<◌, length, Option, Some, None}
use Rattle.tok_lexical.specs.Ascii.{apostrophe, backslash, lower_b, lower_c, lower_r, lower_u}
use Rattle.tok_lexical.specs.Ascii.{lower_x, number_sign, quote}
use Rattle.tok_lexical.specs.Pieces.{HasPrefix, IsAll, begins_with}
use Rattle.tok_lexical.specs.Raw.{EndsAt, most_signs}
use Rattle.tok_lexical.specs.Strings.{AreUnits, IsByte, IsChar, IsUnit}
use Rattle.tok_lexical.specs.Widths.{bytes}
use Rattle.tok_lexical.specs.declared.contents.Contents.{Contents}
use Rattle.tok_lexical.specs.declared.contents.Contents.TheVariants.{Text, Bytes, C}
use Rattle.tok_lexical.specs.declared.quoted.QuotedFault.{QuotedFault}
use Rattle.tok_lexical.specs.declared.quoted.QuotedFault.TheVariants.{Unclosed, UnclosedChar}
use Rattle.tok_lexical.specs.declared.quoted.QuotedFault.TheVariants.{UnclosedRaw, TooManyHashes}
use Rattle.tok_lexical.specs.declared.quoted.QuotedFault.TheVariants.{NoChar, NoByte}
use Rattle.tok_lexical.specs.declared.quoted.QuotedFault.TheVariants.{UnknownEscape}
use Rattle.tok_lexical.specs.declared.quoted.QuotedFault.TheVariants.{AsciiEscape, ByteEscape}
use Rattle.tok_lexical.specs.declared.quoted.QuotedFault.TheVariants.{UnicodeEscape}

-- the message of each fault
abbrev pub quoted_fault_words : QuotedFault → List ℕ
quoted_fault_words Unclosed = codes "the closing quote is missing"
quoted_fault_words UnclosedRaw =
    codes "the closing quote is missing, with as many `#` as the opening one has"
quoted_fault_words TooManyHashes = codes "a raw string has at most 255 `#` before its quote"
quoted_fault_words UnclosedChar = codes "expected `'` after one character"
quoted_fault_words NoChar = codes "expected one character or an escape"
quoted_fault_words NoByte = codes "expected one ASCII character or an escape"
quoted_fault_words UnknownEscape = codes "unknown escape"
quoted_fault_words AsciiEscape = codes "expected `\\x` and two hexadecimal digits, at most `7F`"
quoted_fault_words ByteEscape = codes "expected `\\x` and two hexadecimal digits"
quoted_fault_words UnicodeEscape =
    codes "expected `\\u{..}` with the hexadecimal number of a character"

-- the fault of an `\x` that is no escape
abbrev pub hex_fault : Contents → QuotedFault
hex_fault Text = AsciiEscape
hex_fault contents = ByteEscape

-- the fault of a `\u` that is no escape; bytes have no such escape
abbrev pub code_fault : Contents → QuotedFault
code_fault Bytes = UnknownEscape
code_fault contents = UnicodeEscape

-- what is wrong after the backslash at this byte, and where it is shown: at the backslash, or at
-- the start of the literal if the text ends
abbrev pub escape_at : Contents → (at : ℕ) → List ℕ → QuotedFault × ℕ
escape_at contents at [] = (Unclosed, 0)
escape_at contents at (c ∷ rest) =
    if c == lower_x then (hex_fault contents, at)
    else if c == lower_u then (code_fault contents, at)
    else (UnknownEscape, at)

-- after the opening quote of a string, characters and escapes come first, and the rest begins with
-- neither
pub record StopsAt (contents : Contents) (text front rest : List ℕ) : Type 0 where
  pub cut : text ≡ front ++ rest
  pub units : AreUnits contents front
  pub stops : HasPrefix (IsUnit contents) rest → ⊥

-- what is wrong at this byte of a string, where its inside stops: nothing if the closing quote is
-- there
abbrev pub stop_fault : Contents → (at : ℕ) → (rest : List ℕ) → Option (QuotedFault × ℕ)
stop_fault contents at [] = Some (Unclosed, 0)
stop_fault contents at (c ∷ rest) =
    if c == backslash then Some (escape_at contents at rest) else None

-- what is wrong with a string that begins so, up to its opening quote, and goes on with this text
abbrev pub IsStringFault : Contents → (before text : List ℕ) → Option (QuotedFault × ℕ) → Type 0
IsStringFault contents before text found =
    (front : List ℕ) × (rest : List ℕ) × StopsAt contents text front rest
    × (found ≡ stop_fault contents (bytes (before ++ front)) rest)

-- what is wrong after the one character: nothing if the closing apostrophe is there
abbrev pub unless_closed : (at : ℕ) → (rest : List ℕ) → Option (QuotedFault × ℕ)
unless_closed at rest = if begins_with apostrophe rest then None else Some (UnclosedChar, at)

-- what such a literal must have between its apostrophes
abbrev pub char_fault : Contents → QuotedFault
char_fault Text = NoChar
char_fault contents = NoByte

-- what is wrong if, from this byte on, there is neither a character nor an escape
abbrev pub no_char_fault : Contents → (at : ℕ) → List ℕ → QuotedFault × ℕ
no_char_fault contents at [] = (Unclosed, 0)
no_char_fault contents at (c ∷ rest) =
    if c == backslash then escape_at contents at rest else (char_fault contents, at)

-- what is wrong with a character that begins so, up to its opening apostrophe, and goes on with
-- this text; `Inner` spells what is between the apostrophes
abbrev pub IsCharFault : (List ℕ → Type 0) → Contents → (before text : List ℕ) →
    Option (QuotedFault × ℕ) → Type 0
IsCharFault Inner contents before text found =
    ((inner : List ℕ) × (rest : List ℕ) × (text ≡ inner ++ rest) × Inner inner
    × (found ≡ unless_closed (bytes (before ++ inner)) rest))
    ⊎ ((HasPrefix Inner text → ⊥) × (found ≡ Some (no_char_fault contents (bytes before) text)))

-- what a string of each kind begins with
abbrev pub opening_quote : Contents → List ℕ
opening_quote Text = quote ∷ []
opening_quote Bytes = lower_b ∷ quote ∷ []
opening_quote C = lower_c ∷ quote ∷ []

-- the letters of a raw string of each kind, before its #
abbrev pub raw_letters : Contents → List ℕ
raw_letters Text = lower_r ∷ []
raw_letters Bytes = lower_b ∷ lower_r ∷ []
raw_letters C = lower_c ∷ lower_r ∷ []

-- the text begins with the letters of a raw string, these # and its opening quote
pub record OpensRaw (contents : Contents) (text hashes rest : List ℕ) : Type 0 where
  pub cut : text ≡ raw_letters contents ++ (hashes ++ quote ∷ rest)
  pub signs : IsAll (λ c. c == number_sign) hashes

-- What is wrong with a raw string that has these # and goes on with this text after its quote. The
-- # are too many, or no quote closes it. If the # are few enough, and a quote with as many closes
-- it, nothing is wrong.
pub data IsRawFault (hashes text : List ℕ) : Option (QuotedFault × ℕ) → Type 0 where
  too_many : most_signs < length hashes → IsRawFault hashes text (Some (TooManyHashes, 0))
  unclosed : length hashes ≤ most_signs → (HasPrefix (EndsAt (quote ∷ hashes)) text → ⊥) →
      IsRawFault hashes text (Some (UnclosedRaw, 0))
  whole : length hashes ≤ most_signs → HasPrefix (EndsAt (quote ∷ hashes)) text →
      IsRawFault hashes text None

-- What is wrong with the quoted literal that the text begins with, and at which byte. Nothing is
-- wrong if the literal is whole, or if the text begins with no such literal.
pub data IsQuotedFault (text : List ℕ) (found : Option (QuotedFault × ℕ)) : Type 0 where
  string : (contents : Contents) (rest : List ℕ) → text ≡ opening_quote contents ++ rest →
      IsStringFault contents (opening_quote contents) rest found → IsQuotedFault text found
  character : (rest : List ℕ) → text ≡ apostrophe ∷ rest →
      IsCharFault IsChar Text (apostrophe ∷ []) rest found → IsQuotedFault text found
  byte : (rest : List ℕ) → text ≡ lower_b ∷ apostrophe ∷ rest →
      IsCharFault IsByte Bytes (lower_b ∷ apostrophe ∷ []) rest found → IsQuotedFault text found
  raw : (contents : Contents) (hashes rest : List ℕ) → OpensRaw contents text hashes rest →
      IsRawFault hashes rest found → IsQuotedFault text found
  other : ((contents : Contents) (rest : List ℕ) → text ≡ opening_quote contents ++ rest → ⊥) →
      ((rest : List ℕ) → text ≡ apostrophe ∷ rest → ⊥) →
      ((rest : List ℕ) → text ≡ lower_b ∷ apostrophe ∷ rest → ⊥) →
      ((contents : Contents) (hashes rest : List ℕ) → OpensRaw contents text hashes rest → ⊥) →
      found ≡ None → IsQuotedFault text found
