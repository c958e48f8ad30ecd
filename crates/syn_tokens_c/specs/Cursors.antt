-- What the calls of a cursor return and write.
use Rattle.std.specs.Prelude.{◌≡◌, ℕ, ◌==◌, if◌then◌else◌, Bool, true, false, List, Option, Some, None}
use Rattle.tok_lexical.specs.declared.delimiter.Delimiter.{Delimiter}
use Rattle.tok_lexical.specs.declared.delimiter.Delimiter.TheVariants.{Parenthesis, Brace, Bracket}
use Rattle.tok_lexical.specs.declared.delimiter.Delimiter.TheVariants as delimiter
use Rattle.tok_entries.specs.Cursor.{read_group}
use Rattle.tok_entries.specs.declared.cursor.Step.{Step}
use Rattle.tok_entries.specs.declared.entry.Entry.{Entry}

-- a token is written; or there is none, and nothing is written
abbrev pub IsFound : Option Step → (found : Bool) → (old new : Step) → Type 0
IsFound (Some s) found old new = (found ≡ true) × (new ≡ s)
IsFound None found old new = (found ≡ false) × (new ≡ old)

-- the delimiter of a number
abbrev pub delimiter_of : ℕ → Option Delimiter
delimiter_of number =
    if number == 0 then Some Parenthesis
    else if number == 1 then Some Brace
    else if number == 2 then Some Bracket
    else if number == 3 then Some delimiter.None
    else None

-- a group with the delimiter of a number
abbrev pub read_numbered : ℕ → List Entry → Option Step
read_numbered number es = elim (delimiter_of number) [ Some d ↦ read_group d es | None ↦ None ]
