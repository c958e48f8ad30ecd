-- What a function that looks for a spelling returns, if the longest piece need not be found.
use Rattle.std.specs.Prelude.{◌≡◌, ℕ, List, ◌++◌, Option, MatchOption}
use Rattle.std.specs.Borrow.{Bor}
use Rattle.std.specs.Str.{chars}
use Rattle.tok_lexical.specs.Pieces.{HasPrefix}
use Rattle.tok_lexical.specs.Strings.{AreUnits, IsUnit}
use Rattle.tok_lexical.specs.declared.contents.Contents.{Contents}

-- The result of a function that looks for a spelling: the text after it, or `None` if no front is
-- spelled so. It is meant for spellings of which none begins another.
abbrev pub ReadsPrefix : (List ℕ → Type 0) → List ℕ → Option (Bor (List ℕ)) → Type 0
ReadsPrefix Spelled text answer =
    MatchOption answer (HasPrefix Spelled text → ⊥)
    (λ rest. (piece : List ℕ) × (text ≡ piece ++ chars rest.now) × Spelled piece)

-- the result of a function that looks for units of a string: the text after some of them, or `None`
-- if there are none
abbrev pub FindsUnits : Contents → List ℕ → Option (Bor (List ℕ)) → Type 0
FindsUnits contents text answer =
    MatchOption answer (HasPrefix (IsUnit contents) text → ⊥)
    (λ rest. (units : List ℕ) × (text ≡ units ++ chars rest.now) × AreUnits contents units)
