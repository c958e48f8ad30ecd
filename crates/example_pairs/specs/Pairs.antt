-- What pairs are, by the visible trees ahead.
use Rattle.syn_parse.specs.Lighter.{lowering}
use Rattle.syn_parse.specs.Takes.{Taking, ◌>>=◌, gives}
use Rattle.syn_parse.specs.Takings.{Lowers, Takings, taken_filled}
use Rattle.syn_parse.specs.TokenNames.{Comma, FatArrow, Token, take}
use Rattle.syn_parse.specs.Tokens.{take_ident, take_literal}
use Rattle.syn_punctuated.specs.TakeLists.{list_form, take_terminated}
use Rattle.syn_punctuated.specs.declared.punctuated.Punctuated.{Punctuated}
use Rattle.example_pairs.specs.declared.Pair.{Pair}

-- a name, `=>` and a literal
abbrev pub take_pair : Taking Pair
take_pair = do
  name ← take_ident
  _ ← take FatArrow
  value ← take_literal
  gives (record { name = name; value = value })

-- less is ahead after it
pub lowers_pair : Lowers take_pair
lowers_pair = search lowering depth 20

-- pairs with commas between them; there may be one after the last
abbrev pub pairs : Takings (Punctuated Pair (Token Comma))
pairs =
    taken_filled (list_form (λ pair. pair) (λ comma. comma))
    (take_terminated take_pair (take Comma))
