-- What reading a text straight into entries returns.
use Rattle.std.specs.Prelude.{◌≡◌, Result, Ok, Err, string_bytes}
use Rattle.tok_core.specs.Forest.{Forest}
use Rattle.tok_core.specs.declared.lexer.error.LexFault.{LexFault}
use Rattle.tok_entries.specs.declared.lexing.LexedEntries.{LexedEntries}
use Rattle.tok_entries.specs.Entries.{entries, texts}

-- these are the entries and the texts of the forest
abbrev pub AreOf : Forest → LexedEntries → Type 0
AreOf f lexed = (lexed.entries.items ≡ entries 0 f) × (string_bytes lexed.texts ≡ texts f)

-- the entries and texts of a forest that the grammar allows as what came of the text; or an error
-- that it allows
abbrev pub Writes : (Result Forest LexFault → Type 0) → Result LexedEntries LexFault → Type 0
Writes Follows (Ok lexed) = (f : Forest) × Follows (Ok f) × AreOf f lexed
Writes Follows (Err fault) = Follows (Err fault)
