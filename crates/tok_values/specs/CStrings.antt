-- The values of C strings (Rust Reference: Tokens, C string literals; Raw C string literals).
use Rattle.std.specs.Prelude.{ℕ, ◌&&◌, Bool, List, Option, encode_utf8_all, option_map}
use Rattle.std.specs.Prelude.{if◌then◌else◌}
use Rattle.tok_lexical.specs.Ascii.{backslash, lower_x}
use Rattle.tok_lexical.specs.Pieces.{after_first, begins_with}
use Rattle.tok_values.specs.Strings.{unit}

-- the text begins with `\x`, whose two digits name a byte
abbrev pub names_byte : List ℕ → Bool
names_byte text = begins_with backslash text && begins_with lower_x (after_first text)

-- the bytes of characters: each is one that an escape names, or they are in UTF-8
abbrev pub bytes_of : (is_byte : Bool) → List ℕ → List ℕ
bytes_of is_byte characters = if is_byte then characters else encode_utf8_all characters

-- The front of a C string: the bytes that it means, and the text after it. All but `\x` means what
-- it does in a string, in UTF-8.
abbrev pub c_unit : List ℕ → Option (List ℕ × List ℕ)
c_unit text =
    let is_byte = names_byte text in
    option_map (λ p. (bytes_of is_byte p.0, p.1)) (unit is_byte text)
