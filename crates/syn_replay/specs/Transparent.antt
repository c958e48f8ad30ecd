-- Commands to which invisible groups do not matter, and the promise on them.
use Rattle.std.specs.Prelude.{◌≡◌, Bool, true, false, List, Some, None}
use Rattle.std.specs.List.{list_all}
use Rattle.tok_lexical.specs.declared.delimiter.Delimiter.TheVariants as delimiter
use Rattle.tok_core.specs.Erase.{erase}
use Rattle.tok_core.specs.Filled.{filled}
use Rattle.tok_core.specs.Forest.{Forest}
use Rattle.syn_replay.specs.Agree.{ReportsAgree}
use Rattle.syn_replay.specs.Commands.{Action, Command, read, enter, is_transparent_read}
use Rattle.syn_replay.specs.Session.Walk.{walk}

-- a read to which invisible groups do not matter, or an action that enters none
abbrev pub is_transparent_action : Action → Bool
is_transparent_action (read r) = is_transparent_read r
is_transparent_action (enter None) = false
is_transparent_action (enter (Some delimiter.None)) = false
is_transparent_action a = true

-- the action of the command is transparent
abbrev pub is_transparent : Command → Bool
is_transparent c = is_transparent_action c.action

-- every command is transparent
abbrev pub all_transparent : List Command → Bool
all_transparent commands = list_all is_transparent commands

-- two forests that differ only in invisible groups, none of which is empty
pub record DifferInInvisibleGroups (left right : Forest) : Type 0 where
  pub visible : erase left ≡ erase right
  pub left_filled : filled left ≡ true
  pub right_filled : filled right ≡ true

-- the walks of two such forests agree, for every list of transparent commands
abbrev pub InvisibleGroupsDoNotMatter : Type 0
InvisibleGroupsDoNotMatter =
    (left right : Forest) (commands : List Command) → DifferInInvisibleGroups left right
    → all_transparent commands ≡ true → ReportsAgree (walk left commands) (walk right commands)
