-- How many bytes a piece counts for.
use Rattle.std.specs.Prelude.{ℕ, List, Bool, false, length, encode_utf8_all, if◌then◌else◌}
use Rattle.tok_lexical.specs.Delimiters.{is_invisible}
use Rattle.tok_lexical.specs.declared.rule.Rule.{Rule}
use Rattle.tok_lexical.specs.declared.rule.Rule.TheVariants.{Opening, Closing}

-- a rule that takes the « or » of an invisible group
abbrev pub is_group_mark : Rule → Bool
is_group_mark (Opening d) = is_invisible d
is_group_mark (Closing d) = is_invisible d
is_group_mark rule = false

-- the length of a text in UTF-8
abbrev pub bytes : List ℕ → ℕ
bytes text = length (encode_utf8_all text)

-- how many bytes a piece counts for: the marks of invisible groups count for none
abbrev pub width : Rule → List ℕ → ℕ
width rule piece = if is_group_mark rule then 0 else bytes piece
