-- The values of raw strings (Rust Reference: Tokens, Raw string literals; Raw byte string
-- literals).
use Rattle.std.specs.Prelude.{◌≡◌, ℕ, List, encode_utf8_all}
use Rattle.tok_lexical.specs.Ascii.{lower_b, lower_r}
use Rattle.tok_lexical.specs.Pieces.{After}
use Rattle.tok_lexical.specs.RawQuotes.{InRawQuotes}

-- a raw string literal without a suffix, and what is between its quotes, in UTF-8
abbrev pub IsRawStringValue : (text value : List ℕ) → Type 0
IsRawStringValue text value =
    After lower_r (λ quoted.
    (contents : List ℕ) × InRawQuotes quoted contents × (value ≡ encode_utf8_all contents)) text

-- a raw byte string literal without a suffix, and what is between its quotes
abbrev pub IsRawBytesValue : (text value : List ℕ) → Type 0
IsRawBytesValue text value = After lower_b (λ raw. IsRawStringValue raw value) text
