-- What a peek sees of the visible trees ahead.
use Rattle.std.specs.Prelude.{◌≡◌, ℕ, Bool, Option, None, Some, is_some, codes}
use Rattle.tok_lexical.specs.declared.delimiter.Delimiter.{Delimiter}
use Rattle.tok_core.specs.Forest.{Forest}
use Rattle.tok_buffer.specs.EachRead.{first_if, first_keyword, first_lifetime, first_puncts}
use Rattle.tok_buffer.specs.InFront.{first_group}
use Rattle.tok_buffer.specs.Place.{Place}
use Rattle.tok_buffer.specs.Reads.{any_text, is_ident_of}
use Rattle.tok_core.specs.Kinds.{is_ident, is_literal, is_punct}
use Rattle.tok_buffer.specs.View.{erased_ahead}
use Rattle.tok_types.specs.Texts.{accept_as_ident, keyword_text, punctuation_word}

-- a peek is true if and only if the test of the visible trees ahead is; without a test nothing is
-- said
abbrev pub Sees : Option (Forest → Bool) → Place → Bool → Type 0
Sees None p found = Unit {0}
Sees (Some test) p found = found ≡ test (erased_ahead p)

-- the first visible tree is an identifier that isn't reserved
unfoldable pub ident_first : Forest → Bool
ident_first f = is_some (first_if (is_ident_of accept_as_ident) f)

-- the first visible tree is an identifier, even a reserved one
unfoldable pub any_ident_first : Forest → Bool
any_ident_first f = is_some (first_if is_ident f)

-- the first two visible trees are a joint apostrophe and an identifier
unfoldable pub lifetime_first : Forest → Bool
lifetime_first f = is_some (first_lifetime any_text f)

-- the first visible tree is a literal
unfoldable pub literal_first : Forest → Bool
literal_first f = is_some (first_if is_literal f)

-- the first visible tree is a punct but no apostrophe
unfoldable pub punct_first : Forest → Bool
punct_first f = is_some (first_if is_punct f)

-- the first visible tree is the identifier `_`
unfoldable pub underscore_first : Forest → Bool
underscore_first f = is_some (first_keyword (codes "_") f)

-- the first visible tree is keyword `k`
unfoldable pub keyword_first : ℕ → Forest → Bool
keyword_first k f = is_some (first_keyword (keyword_text k) f)

-- the first visible trees are the puncts of punctuation `k`, which has `n` characters
unfoldable pub punctuation_first : (k n : ℕ) → Forest → Bool
punctuation_first k n f = is_some (first_puncts (punctuation_word k n) f)

-- the first visible tree is a group of this delimiter
unfoldable pub group_first : Delimiter → Forest → Bool
group_first d f = is_some (first_group d f)
