-- The value of a string literal, raw or not.
use Rattle.std.specs.Option.{option_or}
use Rattle.std.specs.Prelude.{ℕ, Bool, not, ◌==◌, ◌-◌, List, ◌∷◌, ◌++◌, Option, Some, None}
use Rattle.std.specs.Prelude.{bytes_eq, drop, length, take, if◌then◌else◌}
use Rattle.std.specs.Str.{chars}
use Rattle.tok_lexical.specs.Ascii.{lower_r, quote}
use Rattle.tok_values.specs.Values.{split, string_value}

-- any character but `"`
abbrev pub is_no_quote : ℕ → Bool
is_no_quote c = not (c == quote)

-- `r`, marks, a quote, a text, a quote and the same marks
abbrev pub raw_string : (marks value : List ℕ) → List ℕ
raw_string marks value = lower_r ∷ (marks ++ quote ∷ (value ++ quote ∷ marks))

-- The text in a raw string without a suffix. Its marks are between `r` and the first quote, and the
-- text is as long as what is left.
abbrev pub raw_value : List ℕ → Option (List ℕ)
raw_value text =
    let parts = split is_no_quote text in
    let marks = drop 1 parts.0 in
    let rest = drop 1 parts.1 in
    let value = take (length rest - length marks - 1) rest in
    if bytes_eq text (raw_string marks value) then Some value else None

-- the value of a string literal without a suffix, in UTF-8
abbrev pub text_value : List ℕ → Option (List ℕ)
text_value text = option_or (raw_value text) (string_value (chars text))
