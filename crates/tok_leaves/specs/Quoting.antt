-- The texts of literals that are made from characters and bytes. Each is given as bytes.
use Rattle.std.specs.Prelude.{ℕ, List, Bool, ◌++◌, ◌==◌, ◌||◌, ◌&&◌, nat_le, codes, encode_utf8}
use Rattle.std.specs.Prelude.{encode_utf8_all, if◌then◌else◌}
use Rattle.std.specs.Char.Escape.{escape_ascii, escape_unicode}
use Rattle.std.specs.List.{flat_map}
use Rattle.tok_lexical.specs.Ascii.{apostrophe, backslash, carriage_return, line_feed, quote, tab}

-- a character, or the escape that stands for it
abbrev pub escaped : ℕ → List ℕ
escaped c =
    if c == quote then codes "\\\"" else
    if c == backslash then codes "\\\\" else
    if c == line_feed then codes "\\n" else
    if c == carriage_return then codes "\\r" else
    if c == tab then codes "\\t" else
    if c == 0 then codes "\\0" else encode_utf8 c

-- a quote, the characters with their escapes, a quote
abbrev pub in_quotes : List ℕ → List ℕ
in_quotes text = codes "\"" ++ (flat_map escaped text ++ codes "\"")

-- the code lies between these two, both included
abbrev pub is_between : ℕ → ℕ → ℕ → Bool
is_between first last c = nat_le first c && nat_le c last

-- A character that shows nothing by itself: a control without an escape of one letter, a space but
-- U+0020, a separator, a format that is ignored where it isn't supported, a mark that combines with
-- letters of any script, private use, or a plane that holds nothing that shows. All of these are
-- ones that `char::escape_debug` escapes.
abbrev pub is_unseen : ℕ → Bool
is_unseen c =
    is_between 0x1 0x8 c || is_between 0xB 0xC c || is_between 0xE 0x1F c || is_between 0x7F 0xA0 c
    || (c == 0xAD) || is_between 0x300 0x36F c || (c == 0x61C) || (c == 0x1680)
    || is_between 0x17B4 0x17B5 c || is_between 0x180B 0x180F c || is_between 0x1AB0 0x1AFF c
    || is_between 0x1DC0 0x1DFF c || is_between 0x2000 0x200F c || is_between 0x2028 0x202F c
    || is_between 0x205F 0x206F c || is_between 0x20D0 0x20FF c || (c == 0x3000)
    || is_between 0xE000 0xF8FF c || is_between 0xFE00 0xFE0F c || is_between 0xFE20 0xFE2F c
    || (c == 0xFEFF) || is_between 0xFFF0 0xFFFB c || is_between 0x1BCA0 0x1BCA3 c
    || is_between 0x1D173 0x1D17A c || nat_le 0xE0000 c

-- a character, the escape that stands for it, or its code if it shows nothing
abbrev pub shown : ℕ → List ℕ
shown c = if is_unseen c then encode_utf8_all (escape_unicode c) else escaped c

-- the literal of a doc comment's text
abbrev pub shown_in_quotes : List ℕ → List ℕ
shown_in_quotes text = codes "\"" ++ (flat_map shown text ++ codes "\"")

-- a character between apostrophes: the quote needs no escape, and the apostrophe does
abbrev pub in_apostrophes : ℕ → List ℕ
in_apostrophes c =
    if c == apostrophe then codes "'\\''" else
    if c == quote then codes "'\"'" else codes "'" ++ (escaped c ++ codes "'")

-- a byte, or the escape that stands for it
abbrev pub escaped_byte : ℕ → List ℕ
escaped_byte byte = encode_utf8_all (escape_ascii byte)

-- an opening, the bytes with their escapes, a closing
abbrev pub bytes_between : List ℕ → List ℕ → List ℕ → List ℕ
bytes_between opening bytes closing = opening ++ (flat_map escaped_byte bytes ++ closing)
