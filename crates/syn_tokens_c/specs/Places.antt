-- Lines and columns, as the call that writes them says.
use Rattle.std.specs.Prelude.{◌≡◌, ◌⊎◌, ℕ, ◌≤◌, ◌<◌, List, length}
use Rattle.std.specs.Str.{IsUtf8}
use Rattle.tok_carets.specs.Lines.{ArePlaces}
use Rattle.tok_carets.specs.declared.line.LineColumn.{LineColumn}

-- all places are written, or nothing is and the status says why
abbrev pub ArePlaced : (text bytes : List ℕ) → (status : ℕ) → (old new : List LineColumn) → Type 0
ArePlaced text bytes status old new =
    ((status ≡ 0) × IsUtf8 text × (length bytes ≤ length old) × ArePlaces text bytes old new)
    ⊎ (((status ≡ 2) × ¬ (IsUtf8 text) × (new ≡ old))
    ⊎ (((status ≡ 3) × IsUtf8 text × (length bytes ≤ length old) × (new ≡ old))
    ⊎ ((status ≡ 4) × (length old < length bytes) × (new ≡ old))))
