-- How many bytes pass a test.
use Rattle.std.specs.Prelude.{◌≡◌, ℕ, ◌+◌, ◌<◌, ◌≤◌, List, Bool, true, false}
use Rattle.std.specs.Prelude.{get_or}

-- the bytes from one place up to another pass
abbrev pub AllPass : (ℕ → Bool) → List ℕ → ℕ → ℕ → Type 0
AllPass pass bytes from to = (k : ℕ) → from ≤ k → k < to → pass (get_or bytes k 0) ≡ true

-- of so many bytes from a place on, this many pass before the first that doesn't
pub record IsRun (passes : ℕ → Bool) (bytes : List ℕ) (at count run : ℕ) : Type 0 where
  pub few : run ≤ count
  pub pass : AllPass passes bytes at (at + run)
  pub stops : run < count → passes (get_or bytes (at + run) 0) ≡ false
