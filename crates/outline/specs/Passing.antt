-- Moves of a cursor in its scope.
use Rattle.std.specs.Prelude.{◌<◌, ◌≤◌}
use Rattle.tok_buffer.specs.Place.{Place}
use Rattle.tok_buffer.specs.Progress.{StaysIn, remaining}

-- in the scope and no earlier, and no more remains
abbrev pub Stays : (from to : Place) → Type 0
Stays from to = StaysIn from to × (remaining to ≤ remaining from)

-- in the scope and no earlier, and less remains
abbrev pub Passes : (from to : Place) → Type 0
Passes from to = StaysIn from to × (remaining to < remaining from)
