-- What comes of entries that are read as arguments.
use Rattle.std.specs.Prelude.{◌≡◌, ◌⊎◌, ℕ, List, Result, Ok, Err}
use Rattle.std.specs.declared.alloc.AllocError.{AllocError}
use Rattle.tok_core.specs.Erase.{erase}
use Rattle.tok_core.specs.Forest.{Forest}
use Rattle.arguments.specs.Grammar.{AreArguments, AreNoArguments}
use Rattle.arguments.specs.Results.{IsWhy}
use Rattle.arguments.specs.Values.{Arguments}
use Rattle.entry_outcomes.specs.Answers.{Given, Returns, answered, bare}
use Rattle.entry_outcomes.specs.Answers.{given_of_fault}
use Rattle.entry_outcomes.specs.Parsed.{IsStopped}
use Rattle.entry_outcomes.specs.declared.answer.Answer.{Answer}
use Rattle.entry_outcomes.specs.declared.outcome.Message.{Message}
use Rattle.entry_outcomes.specs.declared.outcome.Outcome.{Outcome}
use Rattle.entry_outcomes.specs.declared.parse.EntriesFault.{EntriesFault}
use Rattle.entry_outcomes.specs.declared.parse.EntriesFault.TheVariants.{Rejected}
use Rattle.tok_entries.specs.Denotes.{Denotes}
use Rattle.tok_pruned.specs.Pruned.{pruned}
use Rattle.tok_entries.specs.declared.entry.Entry.{Entry}
use Rattle.syn_tokens_c.specs.Flats.{given_list}
use Rattle.syn_tokens_c.specs.declared.flat.FlatArgument.{FlatArgument}

-- The entries and texts denote a forest, whose visible trees are these arguments, or none, and an
-- error says why; or nothing is parsed.
abbrev pub ParsesArguments : List Entry → List ℕ → Result Arguments EntriesFault → Type 0
ParsesArguments es bs (Ok list) =
    (f : Forest) × Denotes es bs f × AreArguments (erase f) list
ParsesArguments es bs (Err (Rejected e)) =
    (f : Forest) × Denotes es bs f × AreNoArguments (erase f) × IsWhy (pruned f) e
ParsesArguments es bs (Err fault) = IsStopped es bs fault

-- what there is to write of a result
abbrev pub given_of : Result Arguments EntriesFault → Given FlatArgument
given_of (Ok list) = given_list list
given_of (Err fault) = given_of_fault fault

-- what comes of the entries is given, or an allocation failed
abbrev pub IsJudged : List Entry → List ℕ → Outcome → (old new : List FlatArgument)
    → (before after : List Message) → (from to : List ℕ) → Type 0
IsJudged es bs o old new before after from to =
    ((result : Result Arguments EntriesFault) × ParsesArguments es bs result
    × Returns (given_of result) o old new before after from to)
    ⊎ Returns (bare 3) o old new before after from to

-- an answer to the entries, before it is written
abbrev pub AnswersArguments : List Entry → List ℕ → Result (Answer FlatArgument) AllocError
    → Type 0
AnswersArguments es bs (Ok a) =
    (result : Result Arguments EntriesFault) × ParsesArguments es bs result
    × (answered a ≡ given_of result)
AnswersArguments es bs (Err e) = Unit {0}
