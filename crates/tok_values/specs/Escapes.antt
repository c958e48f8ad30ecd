-- What escapes name (Rust Reference: Tokens, Character escapes; Byte escapes; Unicode escapes).
use Rattle.std.specs.Prelude.{ℕ, ◌+◌, ◌*◌, ◌==◌, ◌||◌, ◌&&◌, List, [], ◌∷◌, Bool, if◌then◌else◌}
use Rattle.std.specs.Prelude.{◌≡◌, Option, None, Some, MatchOption}
use Rattle.std.specs.Borrow.{Bor}
use Rattle.std.specs.Str.{chars}
use Rattle.std.specs.Char.{is_digit, digit_value}
use lib.Utf8.{scalar}
use Rattle.tok_lexical.specs.Ascii.{apostrophe, backslash, carriage_return, close_brace, digit_zero}
use Rattle.tok_lexical.specs.Ascii.{line_feed, lower_n, lower_r, lower_t, lower_u, lower_x}
use Rattle.tok_lexical.specs.Ascii.{open_brace, quote, tab}
use Rattle.tok_lexical.specs.Pieces.{after_first, begins_with, from_first, up_to}
use Rattle.tok_values.specs.Numbers.{is_digits, number}

-- the character that `\n`, `\r`, `\t`, `\0`, `\\`, `\'` or `\"` names, by what is after the `\`
abbrev pub simple : ℕ → Option ℕ
simple c =
    if c == lower_n then Some line_feed else
    if c == lower_r then Some carriage_return else
    if c == lower_t then Some tab else
    if c == digit_zero then Some 0 else
    if (c == backslash) || ((c == apostrophe) || (c == quote)) then Some c else None

-- after `\x`: the number that two hexadecimal digits write, the first of them below a bound, and
-- the text after them
abbrev pub hex : (top : ℕ) → List ℕ → Option (ℕ × List ℕ)
hex top [] = None
hex top (high ∷ []) = None
hex top (high ∷ (low ∷ rest)) =
    if is_digit high top && is_digit low 16
    then Some (digit_value high * 16 + digit_value low, rest)
    else None

-- the character with this code
abbrev pub char_of : ℕ → Option ℕ
char_of n = if scalar n then Some n else None

-- the character whose code these hexadecimal digits write, perhaps with underscores
abbrev pub named_char : List ℕ → Option ℕ
named_char digits = if is_digits 16 digits then char_of (number 16 digits) else None

-- a value, and the text after it
abbrev pub and_rest : Option ℕ → List ℕ → Option (ℕ × List ℕ)
and_rest None rest = None
and_rest (Some c) rest = Some (c, rest)

-- after `\u`: the character whose code is in braces, and the text after them
abbrev pub code : List ℕ → Option (ℕ × List ℕ)
code [] = None
code (c ∷ text) =
    let closed = from_first close_brace text in
    if (c == open_brace) && begins_with close_brace closed
    then and_rest (named_char (up_to close_brace text)) (after_first closed)
    else None

-- After a `\`: the character that the escape names, and the text after it. In bytes `\x` goes up to
-- FF, and `\u` does not exist.
abbrev pub escape : (wide : Bool) → List ℕ → Option (ℕ × List ℕ)
escape wide [] = None
escape wide (c ∷ rest) =
    if c == lower_x then hex (if wide then 16 else 8) rest else
    if c == lower_u then (if wide then None else code rest) else
    and_rest (simple c) rest

-- what a function that looks for a character returns
abbrev pub FindsCharacter : Option (ℕ × List ℕ) → Option (ℕ × Bor (List ℕ)) → Type 0
FindsCharacter wanted answer =
    MatchOption answer (wanted ≡ None) (λ r. wanted ≡ Some (r.0, chars r.1.now))
