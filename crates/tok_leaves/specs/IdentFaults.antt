-- Why a text is no identifier, or has no raw form (Rust Reference: Identifiers).
use Rattle.std.specs.Prelude.{◌≡◌, ◌↔◌, ◌+◌, ◌⊎◌, ℕ, List, [], ◌∷◌, ◌++◌, length, encode_utf8}
use Rattle.std.specs.Prelude.{Option, None, Some, codes, encode_utf8_all, if◌then◌else◌}
use Rattle.std.specs.Char.{is_ascii_digit}
use Rattle.unicode_ident.specs.Ident.{is_xid_continue}
use Rattle.tok_lexical.specs.Words.{IsIdentifier, HasRaw, has_no_raw, is_identifier_start, is_plain}
use Rattle.tok_leaves.specs.declared.ident_fault.IdentFault.{IdentFault}
use Rattle.tok_leaves.specs.declared.ident_fault.IdentFault.TheVariants.{Empty, Number, Raw}
use Rattle.tok_leaves.specs.declared.ident_fault.IdentFault.TheVariants.{NoRaw, Character}

-- the first character, from this byte of a text on, that no identifier goes on with
abbrev pub rest_fault : ℕ → List ℕ → Option IdentFault
rest_fault at [] = None
rest_fault at (c ∷ rest) =
    if is_xid_continue c then rest_fault (at + length (encode_utf8 c)) rest
    else Some (Character at c)

-- why a text that does not begin with `r#` is no identifier; `None` if it is one
abbrev pub plain_fault : List ℕ → Option IdentFault
plain_fault [] = Some Empty
plain_fault (c ∷ rest) =
    if is_ascii_digit c then Some Number else
    if is_identifier_start c then rest_fault (length (encode_utf8 c)) rest
    else Some (Character 0 c)

-- why a text is no identifier; `None` if it is one
abbrev pub ident_fault : List ℕ → Option IdentFault
ident_fault text = if is_plain text then plain_fault text else Some Raw

-- why a text has no raw form; `None` if it has one
abbrev pub raw_ident_fault : List ℕ → Option IdentFault
raw_ident_fault text = if has_no_raw text then Some NoRaw else ident_fault text

-- the words of each reason
abbrev pub ident_fault_words : IdentFault → List ℕ
ident_fault_words Empty = codes "empty text"
ident_fault_words Number = codes "begins with a digit"
ident_fault_words Raw = codes "begins with `r#`: pass the rest to `Ident::new_raw`"
ident_fault_words NoRaw = codes "has no raw form"
ident_fault_words (Character at c) =
    codes "unexpected character `" ++ (encode_utf8 c ++ codes "` in an identifier")

-- a text is an identifier if and only if there is no reason why it is none
abbrev pub FaultsTellIdentifiers : Type 0
FaultsTellIdentifiers = (text : List ℕ) → (ident_fault text ≡ None) ↔ IsIdentifier text

-- a text has a raw form if and only if there is no reason why it has none
abbrev pub FaultsTellRawForms : Type 0
FaultsTellRawForms = (text : List ℕ) → (raw_ident_fault text ≡ None) ↔ HasRaw text

-- The text before a named character is empty or an identifier, and `at` is its length in bytes.
-- With the character it is no identifier.
abbrev pub FaultsTellCharacters : Type 0
FaultsTellCharacters =
    (text : List ℕ) (at c : ℕ) → ident_fault text ≡ Some (Character at c) →
    (front : List ℕ) × (rest : List ℕ) × (text ≡ front ++ c ∷ rest)
    × (at ≡ length (encode_utf8_all front)) × ((front ≡ []) ⊎ IsIdentifier front)
    × (IsIdentifier (front ++ c ∷ []) → ⊥)
