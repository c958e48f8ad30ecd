-- Settings that `;` ends.
use Rattle.std.specs.Prelude.{None, Some}
use Rattle.syn_parse.specs.Takes.{Taking, ◌>>=◌, gives, where_ahead}
use Rattle.syn_parse.specs.TokenNames.{Eq, Semi, sees, take}
use Rattle.syn_parse.specs.Tokens.{take_ident, take_literal}
use Rattle.example_grammar.specs.declared.ended.Setting.{Setting}

-- `name;` or `name = value;`
abbrev pub take_setting : Taking Setting
take_setting = do
  name ← take_ident
  value ← where_ahead (sees Eq) (do
    _ ← take Eq
    value ← take_literal
    gives (Some value)) (gives None)
  _ ← take Semi
  gives (record { name = name; value = value })
