-- Pairs `name , value`, and entries `name , value , (tail)`.
use Rattle.tok_lexical.specs.declared.delimiter.Delimiter.TheVariants.{Bracket, Parenthesis}
use Rattle.syn_parse.specs.Takes.{Taking, ◌>>=◌, gives, take_group}
use Rattle.syn_parse.specs.TokenNames.{Comma, take}
use Rattle.syn_parse.specs.Tokens.{take_ident, take_literal}
use Rattle.example_callers.specs.declared.entry.Call.{Call}
use Rattle.example_callers.specs.declared.entry.Entry.{Entry}
use Rattle.example_callers.specs.declared.entry.Mark.{Mark}
use Rattle.example_callers.specs.declared.entry.Pair.{Pair}

-- `name , value`
abbrev pub take_pair : Taking Pair
take_pair = do
  name ← take_ident
  _ ← take Comma
  value ← take_literal
  gives (record { name = name; value = value })

-- `name , value , (tail)`
abbrev pub take_entry : Taking Entry
take_entry = do
  name ← take_ident
  _ ← take Comma
  value ← take_literal
  _ ← take Comma
  tail ← take_group Parenthesis take_ident
  gives (record { name = name; value = value; tail = tail.1 })

-- `name (value)`
abbrev pub take_call : Taking Call
take_call = do
  name ← take_ident
  value ← take_group Parenthesis take_literal
  gives (record { name = name; value = value.1 })

-- `name [value]`
abbrev pub take_mark : Taking Mark
take_mark = do
  name ← take_ident
  value ← take_group Bracket take_literal
  gives (record { name = name; value = value.1 })
