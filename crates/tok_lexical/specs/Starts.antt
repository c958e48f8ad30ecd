-- What tells an identifier or a punct by the first character of a text.
use Rattle.std.specs.Prelude.{◌==◌, ◌||◌, ◌&&◌, Bool, false, ℕ, List, [], ◌∷◌, not}
use Rattle.std.specs.Char.{is_ascii_alphabetic}
use Rattle.tok_lexical.specs.Ascii.{lower_b, lower_c, lower_r, slash, underscore}
use Rattle.tok_lexical.specs.Characters.{is_punct}

-- b, c and r begin literals and raw identifiers too
abbrev pub is_prefix : ℕ → Bool
is_prefix c = (c == lower_b) || ((c == lower_c) || (c == lower_r))

-- the text begins with an ASCII character that begins an identifier and nothing else
abbrev pub begins_letter : List ℕ → Bool
begins_letter [] = false
begins_letter (c ∷ rest) = (is_ascii_alphabetic c || (c == underscore)) && not (is_prefix c)

-- the text begins with a character that is a punct whatever follows
abbrev pub begins_punct : List ℕ → Bool
begins_punct [] = false
begins_punct (c ∷ rest) = is_punct c && not (c == slash)
