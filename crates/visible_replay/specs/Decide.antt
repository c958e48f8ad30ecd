-- Visible tokens decide what commands answer.
use Rattle.std.specs.Prelude.{◌≡◌, true, List}
use Rattle.tok_core.specs.Erase.{erase}
use Rattle.tok_core.specs.Forest.{Forest}
use Rattle.tok_pruned.specs.Pruned.{pruned}
use Rattle.syn_replay.specs.Agree.{ReportsAgree}
use Rattle.syn_replay.specs.Commands.{Command}
use Rattle.syn_replay.specs.Session.Walk.{walk}
use Rattle.syn_replay.specs.Transparent.{all_transparent}

-- the walks of two forests with equal visible trees agree, once both are pruned, for every list of
-- transparent commands
abbrev pub VisibleTokensDecide : Type 0
VisibleTokensDecide =
    (left right : Forest) (commands : List Command) → erase left ≡ erase right
    → all_transparent commands ≡ true
    → ReportsAgree (walk (pruned left) commands) (walk (pruned right) commands)
