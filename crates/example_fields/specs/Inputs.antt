-- What comes of entries that are read as the input of a derive.
use Rattle.std.specs.Prelude.{◌≡◌, ◌⊎◌, ℕ, List, Result, Ok, Err}
use Rattle.std.specs.declared.alloc.AllocError.{AllocError}
use Rattle.tok_leaves.specs.Spans.{call_site}
use Rattle.tok_core.specs.Erase.{erase}
use Rattle.tok_core.specs.Forest.{Forest}
use Rattle.tok_pruned.specs.Pruned.{pruned}
use Rattle.tok_entries.specs.Denotes.{Denotes}
use Rattle.tok_entries.specs.declared.entry.Entry.{Entry}
use Rattle.syn_parse.specs.Takes.{IsAll, SaysAll}
use Rattle.syn_parse.specs.Takings.{Takings, taken_filled}
use Rattle.syn_parse.specs.TreesAhead.{whole}
use Rattle.syn_parse.specs.declared.fault.Fault.TheVariants.{Refused}
use Rattle.entry_outcomes.specs.Answers.{Given, Returns, answered, bare, given_of_fault}
use Rattle.entry_outcomes.specs.Parsed.{IsStopped}
use Rattle.entry_outcomes.specs.declared.answer.Answer.{Answer}
use Rattle.entry_outcomes.specs.declared.outcome.Message.{Message}
use Rattle.entry_outcomes.specs.declared.outcome.Outcome.{Outcome}
use Rattle.entry_outcomes.specs.declared.parse.EntriesFault.{EntriesFault}
use Rattle.entry_outcomes.specs.declared.parse.EntriesFault.TheVariants.{Rejected}
use Rattle.syn_derive.specs.Inputs.{InputForm, input_form, take_input}
use Rattle.syn_derive.specs.declared.derive.DeriveInput.{DeriveInput}
use Rattle.example_fields.specs.Tables.{given_table, table}
use Rattle.example_fields.specs.declared.table.Row.{Row}

-- the parse of a derive input, if no invisible group is empty
abbrev pub input : Takings DeriveInput
input = taken_filled input_form take_input

-- The entries and texts denote a forest, whose visible trees are this input; or none, and an error
-- says why. Or nothing is parsed.
abbrev pub ParsesInput : List Entry → List ℕ → Result DeriveInput EntriesFault → Type 0
ParsesInput es bs (Ok it) =
    (f : Forest) × Denotes es bs f × IsAll take_input f (input_form it)
ParsesInput es bs (Err (Rejected e)) =
    (f : Forest) × Denotes es bs f × ((form : InputForm) → IsAll take_input f form → ⊥)
    × SaysAll (pruned f) call_site (take_input (whole f)) (Refused e)
ParsesInput es bs (Err fault) = IsStopped es bs fault

-- The same visible trees, in whatever invisible groups, have one table.
abbrev pub TablesAgree : Type 0
TablesAgree =
    (f g : Forest) (left right : InputForm) → erase f ≡ erase g → IsAll take_input f left
    → IsAll take_input g right → table left ≡ table right

-- what there is to write of a result
abbrev pub given_of : Result DeriveInput EntriesFault → Given Row
given_of (Ok it) = given_table (input_form it)
given_of (Err fault) = given_of_fault fault

-- what comes of the entries is given, or an allocation failed
abbrev pub IsTabulated : List Entry → List ℕ → Outcome → (old new : List Row)
    → (before after : List Message) → (from to : List ℕ) → Type 0
IsTabulated es bs o old new before after from to =
    ((result : Result DeriveInput EntriesFault) × ParsesInput es bs result
    × Returns (given_of result) o old new before after from to)
    ⊎ Returns (bare 3) o old new before after from to

-- an answer that is not yet written
abbrev pub AnswersInput : List Entry → List ℕ → Result (Answer Row) AllocError → Type 0
AnswersInput es bs (Ok a) =
    (result : Result DeriveInput EntriesFault) × ParsesInput es bs result
    × (answered a ≡ given_of result)
AnswersInput es bs (Err e) = Unit {0}
