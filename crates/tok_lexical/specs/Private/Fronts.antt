-- What begins a text, if ASCII decides it.
use Rattle.std.specs.Prelude.{◌==◌, ◌&&◌, ◌||◌, ℕ, List, [], ◌∷◌, Bool, false, nat_le}
use Rattle.std.specs.Char.{is_ascii_alphanumeric, is_ascii_graphic}
use Rattle.tok_lexical.specs.Ascii.{space, underscore}

-- white space that is ASCII
abbrev pub is_ascii_whitespace : ℕ → Bool
is_ascii_whitespace c = (nat_le 9 c && nat_le c 13) || (c == space)

-- the text begins with a character beyond ASCII
abbrev pub begins_beyond_ascii : List ℕ → Bool
begins_beyond_ascii [] = false
begins_beyond_ascii (c ∷ text) = nat_le 128 c

-- the text begins with a visible ASCII character
abbrev pub begins_visibly : List ℕ → Bool
begins_visibly [] = false
begins_visibly (c ∷ text) = is_ascii_graphic c

-- an ASCII character that may go on in an identifier
abbrev pub is_ascii_continue : ℕ → Bool
is_ascii_continue c = is_ascii_alphanumeric c || (c == underscore)

-- the text begins with a character that passes
abbrev pub begins_passing : (passes : ℕ → Bool) → List ℕ → Bool
begins_passing passes [] = false
begins_passing passes (c ∷ text) = passes c
