-- Lines and columns.
use Rattle.std.specs.Prelude.{◌≡◌, ℕ, List, [], ◌∷◌, ◌++◌, ◌+◌, ◌==◌, if◌then◌else◌, min}
use Rattle.std.specs.Str.{chars}
use Rattle.outline.specs.declared.position.Position.{Position}

-- one more, of numbers that end at 2 ^ 64 - 1
abbrev pub next : ℕ → ℕ
next n = min (n + 1) 18446744073709551615

-- the position after a character: the next line's first column after a line feed, else the next
-- column
abbrev pub step : Position → ℕ → Position
step p c =
    (if c == 10 then record { line = next p.line; column = 1 }
    else record { line = p.line; column = next p.column })

-- the position after a text that begins at this one
abbrev pub position_after : Position → List ℕ → Position
position_after p [] = p
position_after p (c ∷ cs) = position_after (step p c) cs

-- A text that begins at one position goes on with the rest at another: the position is that after
-- the characters in between.
abbrev pub GoesOn : Position → List ℕ → Position → List ℕ → Type 0
GoesOn p text q rest =
    (front : List ℕ) × (chars text ≡ front ++ chars rest) × (q ≡ position_after p front)
