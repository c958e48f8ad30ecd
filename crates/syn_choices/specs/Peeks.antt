-- Peeks that are made of peeks.
use Rattle.std.specs.Prelude.{◌⊎◌, Bool, true, false, ◌&&◌, ◌||◌, not, Option, None, Some, option_map}
use Rattle.tok_core.specs.Forest.{Forest}
use Rattle.tok_buffer.specs.Place.{Place}

-- a peek: its result at a place
abbrev pub Peeking : Type 1
Peeking = Place → Bool → Type 0

-- both are true; or one of them is false, the second being asked only after the first
abbrev pub BothPeek : Peeking → Peeking → Peeking
BothPeek first second p true = first p true × second p true
BothPeek first second p false = first p false ⊎ (first p true × second p false)

-- one of them is true, the second being asked only after the first; or both are false
abbrev pub EitherPeeks : Peeking → Peeking → Peeking
EitherPeeks first second p true = first p true ⊎ (first p false × second p true)
EitherPeeks first second p false = first p false × second p false

-- the peek is true if and only if this one is false
abbrev pub NoPeek : Peeking → Peeking
NoPeek peeks p found = peeks p (not found)

-- two tests of the visible trees ahead, joined, if both peeks have one
abbrev pub both_by : (Bool → Bool → Bool) → Option (Forest → Bool) → Option (Forest → Bool)
    → Option (Forest → Bool)
both_by joins (Some first) (Some second) = Some (λ f. joins (first f) (second f))
both_by joins first second = None

-- both tests are true
abbrev pub both_see : Option (Forest → Bool) → Option (Forest → Bool) → Option (Forest → Bool)
both_see first second = both_by (λ a b. a && b) first second

-- one of two tests is true
abbrev pub either_sees : Option (Forest → Bool) → Option (Forest → Bool) → Option (Forest → Bool)
either_sees first second = both_by (λ a b. a || b) first second

-- a test is false
abbrev pub not_sees : Option (Forest → Bool) → Option (Forest → Bool)
not_sees sees = option_map (λ test f. not (test f)) sees
