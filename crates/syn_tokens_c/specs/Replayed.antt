-- What comes of commands over entries.
use Rattle.std.specs.Prelude.{◌≡◌, ◌⊎◌, ℕ, List, [], Result, Ok, Err}
use Rattle.std.specs.declared.alloc.AllocError.{AllocError}
use Rattle.tok_core.specs.Forest.{Forest}
use Rattle.replay_program.specs.Program.{PrintsFor}
use Rattle.entry_outcomes.specs.Answers.{Given, Returns, answered, bare, given_of_fault}
use Rattle.entry_outcomes.specs.Answers.{given_text}
use Rattle.entry_outcomes.specs.Parsed.{IsStopped}
use Rattle.entry_outcomes.specs.declared.answer.Answer.{Answer}
use Rattle.entry_outcomes.specs.declared.outcome.Outcome.{Outcome}
use Rattle.entry_outcomes.specs.declared.parse.EntriesFault.{EntriesFault}
use Rattle.tok_entries.specs.Denotes.{Denotes}
use Rattle.tok_entries.specs.declared.entry.Entry.{Entry}
use Rattle.tok_pruned.specs.Pruned.{pruned}

-- The entries and texts denote a forest, and this is given: what the program prints for a text of
-- its tokens, without the invisible groups that hold nothing visible, and these lines of commands;
-- or nothing is read.
abbrev pub GivesReport : List Entry → (bs commands : List ℕ) → Given ℕ → Type 0
GivesReport es bs commands given =
    ((f : Forest) × (printed : List ℕ) × (status : ℕ) × Denotes es bs f
    × PrintsFor (pruned f) commands printed status × (given ≡ given_text status printed))
    ⊎ ((fault : EntriesFault) × IsStopped es bs fault × (given ≡ given_of_fault fault))

-- such a report is given as an answer, unless an allocation failed
abbrev pub AnswersReport : List Entry → (bs commands : List ℕ) → Result (Answer ℕ) AllocError
    → Type 0
AnswersReport es bs commands (Ok a) = GivesReport es bs commands (answered a)
AnswersReport es bs commands (Err e) = Unit {0}

-- what is given is written, or the status says that an allocation failed
abbrev pub IsReplayed : List Entry → (bs commands : List ℕ) → Outcome → (old new : List ℕ) → Type 0
IsReplayed es bs commands o old new =
    ((given : Given ℕ) × GivesReport es bs commands given × Returns given o [] [] [] [] old new)
    ⊎ Returns (bare {A = ℕ} 3) o [] [] [] [] old new
