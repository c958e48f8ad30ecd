-- Which forest entries and texts denote.
use Rattle.std.specs.Prelude.{◌≡◌, ◌≤◌, ℕ, List}
use Rattle.tok_core.specs.Forest.{Forest}
use Rattle.tok_core.specs.Lexical.Items.{depth, most_levels}
use Rattle.tok_entries.specs.declared.entry.Entry.{Entry}
use Rattle.tok_entries.specs.Entries.{entries, texts}
use Rattle.tok_entries.specs.Texts.{IsForestIn}

-- These are the entries of the forest, if the texts begin at this byte, and the texts of its
-- leaves.
-- Each text is of its kind, each span is of source 0, and no more than so many groups are nested.
abbrev pub DenotesFrom : (at levels : ℕ) → List Entry → List ℕ → Forest → Type 0
DenotesFrom at levels es bs f =
    (es ≡ entries at f) × (bs ≡ texts f) × IsForestIn f × (depth f ≤ levels)

-- these are all entries and texts of the forest, and no more than 256 groups are nested
abbrev pub Denotes : List Entry → List ℕ → Forest → Type 0
Denotes es bs f = DenotesFrom 0 most_levels es bs f

-- no forest has these entries and texts
abbrev pub DenotesNone : List Entry → List ℕ → Type 0
DenotesNone es bs = (f : Forest) → Denotes es bs f → ⊥
