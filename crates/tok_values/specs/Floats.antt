-- What floats mean (Rust Reference: Tokens, Floating-point literals). Texts are bytes here.
use Rattle.std.specs.Prelude.{◌≡◌, ◌⊎◌, ℕ, ◌-◌, ◌==◌, ◌||◌, not, Bool, false, if◌then◌else◌}
use Rattle.std.specs.Prelude.{List, [], ◌∷◌, length, take, drop, bytes_eq, codes, Option, None}
use Rattle.std.specs.Char.{is_ascii_digit}
use Rattle.std.specs.List.{filter}
use Rattle.tok_lexical.specs.Ascii.{underscore}
use Rattle.std.specs.Float.{Float, binary64}
use Rattle.std.specs.Float.Parse.{parse_float}

-- the text without a suffix `f32` or `f64`
abbrev pub without_type : List ℕ → List ℕ
without_type text =
    let n = length text - 3 in
    let last = drop n text in
    if bytes_eq last (codes "f32") || bytes_eq last (codes "f64") then take n text else text

-- any byte but `_`
abbrev pub is_no_underscore : ℕ → Bool
is_no_underscore byte = not (byte == underscore)

-- the first byte is a decimal digit
abbrev pub begins_decimal : List ℕ → Bool
begins_decimal [] = false
begins_decimal (byte ∷ text) = is_ascii_digit byte

-- the text without underscores
abbrev pub without_underscores : List ℕ → List ℕ
without_underscores text = filter is_no_underscore text

-- no suffix, or the name of a type of floats
abbrev pub IsFloatSuffix : List ℕ → Type 0
IsFloatSuffix suffix = (suffix ≡ []) ⊎ ((suffix ≡ codes "f32") ⊎ (suffix ≡ codes "f64"))

-- the nearest double of what the digits write, without underscores
abbrev pub float_value : List ℕ → Option Float
float_value text =
    if begins_decimal text
    then parse_float binary64 (without_underscores (without_type text))
    else None
