-- What counts as progress of a list parser.
use Rattle.std.specs.Prelude.{◌≡◌, ◌≤◌, Bool, ◌&&◌, ◌||◌, true, false, not, is_some}
use Rattle.std.specs.Ordering.{partial_lt}
use Rattle.tok_buffer.specs.Order.{order, same_scope}
use Rattle.tok_buffer.specs.Place.{Place, count_before}
use Rattle.tok_buffer.specs.Progress.{remaining}

-- `to` is later in the scope of `from`, or `to` is the empty place and `from` is not
abbrev pub progresses : (from to : Place) → Bool
progresses from to =
    (same_scope from to && partial_lt order from to)
    || (is_some (count_before from) && not (is_some (count_before to)))

-- no progress: in one scope no less is left
abbrev pub MakesNone : (from to : Place) → Type 0
MakesNone from to =
    (progresses from to ≡ false) × (same_scope from to ≡ true → remaining from ≤ remaining to)
