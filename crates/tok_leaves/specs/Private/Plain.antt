-- The bytes that a literal of a text holds as they are.
use Rattle.std.specs.Prelude.{ℕ, Bool, ◌==◌, ◌||◌, not, nat_lt}
use Rattle.tok_lexical.specs.Ascii.{backslash, carriage_return, line_feed, quote, space, tab}

-- a byte of printable ASCII other than a quote and a backslash
abbrev pub is_plain : ℕ → Bool
is_plain b = not (nat_lt b space || nat_lt 0x7E b || (b == quote) || (b == backslash))

-- a byte that a literal writes as a backslash and one byte more: a quote, a backslash, a line feed,
-- a carriage return, a tab or a zero
abbrev pub has_escape : ℕ → Bool
has_escape b =
    (b == quote) || (b == backslash) || (b == line_feed) || (b == carriage_return) || (b == tab)
    || (b == 0)

-- any other byte
abbrev pub is_unescaped : ℕ → Bool
is_unescaped b = not (has_escape b)
