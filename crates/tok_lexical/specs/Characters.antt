-- White space, punctuation characters and delimiters (Rust Reference: Whitespace; Tokens,
-- Punctuation and Delimiters).
use Rattle.std.specs.Prelude.{ℕ, Bool, ◌||◌, ◌&&◌, ◌==◌, nat_le}
use Rattle.tok_lexical.specs.Ascii.{apostrophe, close_brace, close_bracket, close_mark}
use Rattle.tok_lexical.specs.Ascii.{close_parenthesis, exclamation_mark, open_brace, open_bracket}
use Rattle.tok_lexical.specs.Ascii.{open_mark, open_parenthesis, space}
use Rattle.tok_lexical.specs.declared.delimiter.Delimiter.{Delimiter}
use Rattle.tok_lexical.specs.declared.delimiter.Delimiter.TheVariants.{Parenthesis, Brace, Bracket}
use Rattle.tok_lexical.specs.declared.delimiter.Delimiter.TheVariants.{None}

-- U+0009 to U+000D, space, U+0085, U+200E, U+200F, U+2028, U+2029
abbrev pub is_whitespace : ℕ → Bool
is_whitespace c =
    (nat_le 9 c && nat_le c 13) || (c == space) || (c == 0x85) || (c == 0x200E) || (c == 0x200F)
    || (c == 0x2028) || (c == 0x2029)

-- one of ! # $ % & * + , - . / : ; < = > ? @ ^ | ~
abbrev pub is_punct : ℕ → Bool
is_punct c =
    (c == exclamation_mark) || (nat_le 35 c && nat_le c 38) || (nat_le 42 c && nat_le c 47)
    || (nat_le 58 c && nat_le c 64) || (c == 94) || (c == 124) || (c == 126)

-- a character that a punct may have: those, and the apostrophe
abbrev pub is_punct_or_apostrophe : ℕ → Bool
is_punct_or_apostrophe c = is_punct c || (c == apostrophe)

-- one of ( { [ «
abbrev pub opening_mark : Delimiter → ℕ
opening_mark Parenthesis = open_parenthesis
opening_mark Brace = open_brace
opening_mark Bracket = open_bracket
opening_mark None = open_mark

-- one of ) } ] »
abbrev pub closing_mark : Delimiter → ℕ
closing_mark Parenthesis = close_parenthesis
closing_mark Brace = close_brace
closing_mark Bracket = close_bracket
closing_mark None = close_mark
