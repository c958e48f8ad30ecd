-- What a loop that takes trees off the front of entries and texts keeps.
use Rattle.std.specs.Prelude.{◌≡◌, ◌≤◌, ℕ, List, ◌++◌}
use Rattle.tok_core.specs.Building.{Levels, add_forest}
use Rattle.tok_core.specs.Forest.{Forest}
use Rattle.tok_core.specs.Lexical.Items.{depth}
use Rattle.tok_pruned.specs.Pruned.{pruned}
use Rattle.tok_entries.specs.declared.entry.Entry.{Entry}
use Rattle.tok_entries.specs.Entries.{entries, texts}
use Rattle.tok_entries.specs.Texts.{IsForestIn}

-- a forest is before what is left, and what is left of it is in the innermost level
abbrev pub GoesOn : ℕ → ℕ → List Entry → List ℕ → List Entry → List ℕ → Levels → Levels → Type 0
GoesOn at levels es bs left rest old new =
    (f : Forest) × (es ≡ entries at f ++ left) × (bs ≡ texts f ++ rest) × IsForestIn f
    × (depth f ≤ levels) × (new ≡ add_forest (pruned f) old)
