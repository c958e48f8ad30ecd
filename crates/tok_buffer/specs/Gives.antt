-- The result of a call for which the definition may have nothing.
use Rattle.std.specs.Prelude.{◌≡◌, Option, Some, None, MatchOption}

-- `None` if the definition has nothing, else a value that contracts see as the defined one
abbrev pub Gives : {X Y : Type 0} → Option X → Option Y → (X → Y) → Type 0
Gives result wanted seen = MatchOption result (wanted ≡ None) (λ r. wanted ≡ Some (seen r))
