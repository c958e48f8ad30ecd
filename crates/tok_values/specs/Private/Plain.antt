-- The characters that a text in quotes holds as they are.
use Rattle.std.specs.Prelude.{ℕ, Bool, ◌==◌, ◌||◌, ◌&&◌, not, nat_le}
use Rattle.tok_lexical.specs.Ascii.{backslash, carriage_return, quote}

-- a character that isn't a backslash, a quote or a carriage return, and in bytes is ASCII
abbrev pub is_plain : (wide : Bool) → ℕ → Bool
is_plain wide c =
    not ((c == backslash) || ((c == quote) || ((c == carriage_return) || (wide && nat_le 128 c))))
