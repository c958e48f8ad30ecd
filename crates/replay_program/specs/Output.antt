-- A text that goes out.
use Rattle.std.specs.Prelude.{◌≡◌, ◌⊎◌, ℕ, List, ◌++◌, Option}
use Rattle.std.specs.Io.KnownBytes.{Appends}
use Rattle.replay_program.specs.Failures.{Writing}

-- the sink took this text in turn, and was flushed
abbrev pub GoesOutWhole : Writing → List ℕ → Option (List ℕ) → Option (List ℕ) → Type 0
GoesOutWhole written text old new = written.whole text × Appends old new text

-- a write or the flush failed, and before that the sink took a front of this text in turn
abbrev pub GoesOutInPart : Writing → List ℕ → Option (List ℕ) → Option (List ℕ) → Type 0
GoesOutInPart written text old new =
    (front : List ℕ) × (rest : List ℕ) × (text ≡ front ++ rest) × written.failed front
    × Appends old new front

-- a text went out whole, with its status; or in part, with status 2
abbrev pub GoesOut : Writing → List ℕ → ℕ → ℕ → Option (List ℕ) → Option (List ℕ) → Type 0
GoesOut written text code status old new =
    ((status ≡ code) × GoesOutWhole written text old new)
    ⊎ ((status ≡ 2) × GoesOutInPart written text old new)
