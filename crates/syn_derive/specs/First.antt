-- Tokens that are first of the trees ahead, by their numbers in the tables of keywords and
-- punctuations.
use Rattle.std.specs.Prelude.{Bool}
use Rattle.tok_core.specs.Forest.{Forest}
use Rattle.tok_types.specs.Sees.{keyword_first, punctuation_first}

-- the keyword `await` is first
abbrev pub await_first : Forest → Bool
await_first = keyword_first 4

-- the keyword `crate` is first
abbrev pub crate_first : Forest → Bool
crate_first = keyword_first 10

-- the keyword `in` is first
abbrev pub in_first : Forest → Bool
in_first = keyword_first 22

-- the keyword `Self` is first
abbrev pub self_type_first : Forest → Bool
self_type_first = keyword_first 37

-- the keyword `self` is first
abbrev pub self_value_first : Forest → Bool
self_value_first = keyword_first 38

-- the keyword `super` is first
abbrev pub super_first : Forest → Bool
super_first = keyword_first 41

-- `:` is first
abbrev pub colon_first : Forest → Bool
colon_first = punctuation_first 6 1

-- `,` is first
abbrev pub comma_first : Forest → Bool
comma_first = punctuation_first 7 1

-- `=` is first
abbrev pub eq_first : Forest → Bool
eq_first = punctuation_first 13 1

-- `>` is first
abbrev pub gt_first : Forest → Bool
gt_first = punctuation_first 17 1

-- `<` is first
abbrev pub lt_first : Forest → Bool
lt_first = punctuation_first 20 1

-- `::` is first
abbrev pub path_sep_first : Forest → Bool
path_sep_first = punctuation_first 28 2

-- `?` is first
abbrev pub question_first : Forest → Bool
question_first = punctuation_first 34 1

-- `->` is first
abbrev pub r_arrow_first : Forest → Bool
r_arrow_first = punctuation_first 35 2

-- `;` is first
abbrev pub semi_first : Forest → Bool
semi_first = punctuation_first 36 1

-- `<<` is first
abbrev pub shl_first : Forest → Bool
shl_first = punctuation_first 37 2
