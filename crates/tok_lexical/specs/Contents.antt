-- What the quoted part of a literal may hold (Rust Reference: Tokens, Character and string
-- literals; Byte and byte string literals; C string and raw C string literals).
use Rattle.std.specs.Prelude.{ℕ, List, [], ◌∷◌, Bool, false, ◌==◌, ◌||◌, ◌&&◌, not, nat_le, if◌then◌else◌}
use Rattle.std.specs.List.{list_any}
use Rattle.tok_lexical.specs.Ascii.{backslash, carriage_return, close_brace, digit_zero, line_feed}
use Rattle.tok_lexical.specs.Ascii.{lower_u, lower_x, open_brace, quote, underscore}
use Rattle.tok_lexical.specs.Pieces.{after_first, begins_with}
use Rattle.tok_lexical.specs.declared.contents.Contents.{Contents}
use Rattle.tok_lexical.specs.declared.contents.Contents.TheVariants.{Text, Bytes, C}

-- a character that no literal of this kind may hold unescaped: in bytes one beyond ASCII, in a C
-- string U+0000
abbrev pub is_misfit : Contents → ℕ → Bool
is_misfit Text c = false
is_misfit Bytes c = nat_le 128 c
is_misfit C c = c == 0

-- a `"` is among the characters
abbrev pub has_quote : List ℕ → Bool
has_quote [] = false
has_quote (c ∷ rest) = (c == quote) || has_quote rest

-- one of these stands before a quote, and so not in the suffix
abbrev pub has_misfit : Contents → List ℕ → Bool
has_misfit contents [] = false
has_misfit contents (c ∷ rest) =
    if is_misfit contents c then has_quote rest else has_misfit contents rest

-- some character is a U+000D
abbrev pub has_return : List ℕ → Bool
has_return = list_any (λ c. c == carriage_return)

-- a U+000D that no line feed follows
abbrev pub has_bare_return : List ℕ → Bool
has_bare_return [] = false
has_bare_return (c ∷ rest) =
    ((c == carriage_return) && not (begins_with line_feed rest)) || has_bare_return rest

-- the piece holds a bare U+000D, or a character that no literal of this kind may hold
abbrev pub is_unfit : Contents → List ℕ → Bool
is_unfit contents piece = has_bare_return piece || has_misfit contents piece

-- zeros and underscores, up to the brace that ends a code
abbrev pub only_zeros : List ℕ → Bool
only_zeros [] = false
only_zeros (c ∷ rest) =
    (c == close_brace) || (((c == digit_zero) || (c == underscore)) && only_zeros rest)

-- what follows a backslash names U+0000
abbrev pub names_zero : List ℕ → Bool
names_zero [] = false
names_zero (c ∷ rest) =
    (c == digit_zero)
    || (((c == lower_x)
    && (begins_with digit_zero rest && begins_with digit_zero (after_first rest)))
    || ((c == lower_u) && (begins_with open_brace rest && only_zeros (after_first rest))))

-- an escape names U+0000; the first argument says whether a backslash comes before
abbrev pub has_zero : Bool → List ℕ → Bool
has_zero escaped [] = false
has_zero escaped (c ∷ rest) =
    (escaped && names_zero (c ∷ rest)) || has_zero (not escaped && (c == backslash)) rest

-- a string with escapes is malformed: it is unfit, or in a C string an escape names U+0000
abbrev pub is_wrong : Contents → List ℕ → Bool
is_wrong C piece = is_unfit C piece || has_zero false piece
is_wrong contents piece = is_unfit contents piece
