-- The spellings of identifiers (Rust Reference: Identifiers; Tokens, Suffixes and Lifetimes).
use Rattle.std.specs.Prelude.{◌≡◌, ℕ, List, [], ◌∷◌, ◌⊎◌, Bool, true, false, not, ◌||◌, ◌&&◌, ◌==◌}
use Rattle.std.specs.Prelude.{codes}
use Rattle.std.specs.List.{list_all}
use Rattle.std.specs.Str.{bytes_eq}
use Rattle.unicode_ident.specs.Ident.{is_xid_start, is_xid_continue}
use Rattle.tok_lexical.specs.Ascii.{lower_r, number_sign, underscore}
use Rattle.tok_lexical.specs.Pieces.{After}

-- a character with the property XID_Start, or `_`
abbrev pub is_identifier_start : ℕ → Bool
is_identifier_start c = is_xid_start c || (c == underscore)

-- a plain identifier
abbrev pub IsIdentifier : List ℕ → Type 0
IsIdentifier [] = ⊥
IsIdentifier (c ∷ cs) = (is_identifier_start c ≡ true) × (list_all is_xid_continue cs ≡ true)

-- nothing, or a plain identifier
abbrev pub IsSuffix : List ℕ → Type 0
IsSuffix suffix = (suffix ≡ []) ⊎ IsIdentifier suffix

-- `r#` and a plain identifier
abbrev pub IsRawIdentifier : List ℕ → Type 0
IsRawIdentifier = After lower_r (After number_sign IsIdentifier)

-- an identifier, plain or raw
abbrev pub IsName : List ℕ → Type 0
IsName name = IsIdentifier name ⊎ IsRawIdentifier name

-- the words that begin raw strings: r br
abbrev pub is_raw_prefix : List ℕ → Bool
is_raw_prefix word = bytes_eq word (codes "r") || bytes_eq word (codes "br")

-- the words that don't exist as raw identifiers: _ self Self super crate
abbrev pub has_no_raw : List ℕ → Bool
has_no_raw word =
    bytes_eq word (codes "_")
    || (bytes_eq word (codes "self")
    || (bytes_eq word (codes "Self")
    || (bytes_eq word (codes "super") || bytes_eq word (codes "crate"))))

-- a raw identifier that does not exist
abbrev pub is_missing_raw : List ℕ → Bool
is_missing_raw [] = false
is_missing_raw (c ∷ []) = false
is_missing_raw (c ∷ d ∷ word) = (c == lower_r) && ((d == number_sign) && has_no_raw word)

-- a text that does not begin with `r#`
abbrev pub is_plain : List ℕ → Bool
is_plain [] = true
is_plain (c ∷ []) = true
is_plain (c ∷ d ∷ word) = not ((c == lower_r) && (d == number_sign))

-- a plain identifier that exists as a raw one
abbrev pub HasRaw : List ℕ → Type 0
HasRaw word = IsIdentifier word × (has_no_raw word ≡ false)
