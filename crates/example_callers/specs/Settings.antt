-- Settings `name = value`, flags, fields and labels.
use Rattle.std.specs.Prelude.{Option, Some, None}
use Rattle.syn_parse.specs.Optional.{take_optional}
use Rattle.tok_leaves.specs.declared.ident.Ident.{Ident}
use Rattle.syn_parse.specs.Skips.{sees_next}
use Rattle.syn_parse.specs.Takes.{Taking, ◌>>=◌, gives, on_fork, where_ahead}
use Rattle.syn_parse.specs.TokenNames.{Colon, Eq, Star, sees, take}
use Rattle.syn_parse.specs.Tokens.{take_ident, take_literal}
use Rattle.example_callers.specs.declared.setting.Setting.{Setting}
use Rattle.example_callers.specs.declared.setting.Flag.{Flag}
use Rattle.example_callers.specs.declared.setting.Field.{Field}

-- a name, and a value after `=` if there is one
abbrev pub take_setting : Taking Setting
take_setting = do
  name ← take_ident
  value ← where_ahead (sees Eq) (do
    _ ← take Eq
    value ← take_literal
    gives (Some value)) (gives None)
  gives (record { name = name; value = value })

-- a star if there is one, and a name
abbrev pub take_flag : Taking Flag
take_flag = do
  star ← take_optional (sees Star) (take Star)
  name ← take_ident
  gives (record { star = star; name = name })

-- `name: Kind`
abbrev pub take_field : Taking Field
take_field = do
  name ← take_ident
  _ ← take Colon
  kind ← take_ident
  gives (record { name = name; kind = kind })

-- a name, if the token after it is `:`, which is taken too
abbrev pub take_label : Taking (Option Ident)
take_label =
    where_ahead (sees_next (sees Colon)) (do
      name ← take_ident
      _ ← take Colon
      gives (Some name)) (gives None)

-- a field, read on a fork
abbrev pub take_tried : Taking Field
take_tried = on_fork take_field
