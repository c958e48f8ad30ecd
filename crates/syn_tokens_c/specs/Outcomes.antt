-- What the calls return and write.
use Rattle.std.specs.Prelude.{◌≡◌, ◌⊎◌, ℕ, ◌≤◌, ◌==◌, if◌then◌else◌, List, [], length}
use Rattle.std.specs.Prelude.{Option, Some, None, MatchOption, Result, Ok, Err, string_bytes}
use Rattle.std.specs.Str.{IsUtf8, chars}
use Rattle.tok_core.specs.Forest.{Forest}
use Rattle.tok_core.specs.Lexical.Errors.{error_number, error_byte, error_words}
use Rattle.tok_core.specs.declared.lexer.error.LexFault.{LexFault}
use Rattle.tok_core.specs.declared.lexer.error.LexFault.TheVariants.{Refused, Memory}
use Rattle.tok_core.specs.Lexical.Outcome.{FollowsSource}
use Rattle.tok_lexical.specs.declared.edition.Edition.{Edition}
use Rattle.tok_lexical.specs.declared.edition.Edition.TheVariants.{Edition2015, Edition2018}
use Rattle.tok_lexical.specs.declared.edition.Edition.TheVariants.{Edition2021, Edition2024}
use Rattle.replay_program.specs.Program.{Prints, PrintsOnly}
use Rattle.tok_entries.specs.Entries.{entries, texts}
use Rattle.tok_entries.specs.declared.entry.Entry.{Entry}
use Rattle.tok_entries.specs.declared.lexing.LexedEntries.{LexedEntries}
use Rattle.syn_tokens_c.specs.declared.read.Answer.{Answer as Made}
use Rattle.syn_tokens_c.specs.declared.read.Reading.{Reading}
use Rattle.entry_outcomes.specs.Answers.{Fronts}

-- what came of a text, with all that there is to write
pub record Answer : Type 0 where
  pub status : ℕ
  pub rule : ℕ
  pub at : ℕ
  pub entries : List Entry
  pub bytes : List ℕ

-- the answer that the library has made
abbrev pub answered : Made → Answer
answered a =
    record {
      status = a.status;
      rule = a.rule;
      at = a.at;
      entries = a.entries.items;
      bytes = string_bytes a.bytes;
    }

-- an answer with this status, and nothing to write
abbrev pub bare : ℕ → Answer
bare status = record { status = status; rule = 0; at = 0; entries = []; bytes = [] }

-- an answer with these entries and texts
abbrev pub all_of : List Entry → List ℕ → Answer
all_of es bs = record { status = 0; rule = 0; at = 0; entries = es; bytes = bs }

-- an error as its words
abbrev pub refused : LexFault → Answer
refused (Refused e) =
    record {
      status = 1;
      rule = error_number e;
      at = error_byte e;
      entries = [];
      bytes = error_words e;
    }
refused Memory = bare 3

-- an answer with the entries and texts of a forest
abbrev pub forest_answer : Forest → Answer
forest_answer f = all_of (entries 0 f) (texts f)

-- an answer with the entries and texts that were read
abbrev pub lexed_answer : LexedEntries → Answer
lexed_answer lexed = all_of lexed.entries.items (string_bytes lexed.texts)

-- what was read has this answer, and an error its words
abbrev pub answer_of : {A : Type 0} → (A → Answer) → Result A LexFault → Answer
answer_of answer (Ok read) = answer read
answer_of answer (Err fault) = refused fault

-- An answer is returned, and written over the front of what the caller lends, if there is room for
-- all of it; if not, nothing is written, and the status says so. How much there is to write is
-- returned either way.
pub record Returns (a : Answer) (r : Reading) (old new : List Entry) (before after : List ℕ) :
    Type 0 where
  pub count : r.entries ≡ length a.entries
  pub size : r.bytes ≡ length a.bytes
  pub room : length a.entries ≤ length old → length a.bytes ≤ length before →
      (r.status ≡ a.status) × (r.rule ≡ a.rule) × (r.at ≡ a.at)
      × Fronts a.entries old new × Fronts a.bytes before after
  pub no_room : (length a.entries ≤ length old → length a.bytes ≤ length before → ⊥) →
      (r.status ≡ 4) × (r.rule ≡ 0) × (r.at ≡ 0) × (new ≡ old) × (after ≡ before)

-- an answer is returned, or an allocation failed
abbrev pub Tells : Answer → Reading → (old new : List Entry) → (before after : List ℕ) → Type 0
Tells a r old new before after =
    Returns a r old new before after ⊎ Returns (bare 3) r old new before after

-- what came of a text that is UTF-8 follows the grammar
abbrev pub Lexes : (List ℕ → Result Forest LexFault → Type 0) → List ℕ → Reading →
    (old new : List Entry) → (before after : List ℕ) → Type 0
Lexes Follows text r old new before after =
    (IsUtf8 text × ((outcome : Result Forest LexFault) × Follows (chars text) outcome
    × Tells (answer_of forest_answer outcome) r old new before after))
    ⊎ (¬ (IsUtf8 text) × Returns (bare 2) r old new before after)

-- the edition of a year
abbrev pub edition_of : ℕ → Option Edition
edition_of year =
    if year == 2015 then Some Edition2015
    else if year == 2018 then Some Edition2018
    else if year == 2021 then Some Edition2021
    else if year == 2024 then Some Edition2024
    else None

-- a source that is UTF-8 follows the grammar of the edition of this year, if there is one
abbrev pub LexesSource : ℕ → List ℕ → Reading → (old new : List Entry) →
    (before after : List ℕ) → Type 0
LexesSource year text r old new before after =
    MatchOption (edition_of year) (Returns (bare 5) r old new before after)
    (λ edition. Lexes (FollowsSource edition 0) text r old new before after)

-- What the program prints for an input is written over the front of what the caller lends, if it
-- fits there, and else nothing is; or an allocation failed, and nothing is.
abbrev pub Responds : List ℕ → ℕ → ℕ → (old new : List ℕ) → Type 0
Responds input status size old new =
    ((printed : List ℕ) × Prints input printed status × PrintsOnly input printed status
    × (size ≡ length printed) × (size ≤ length old → Fronts printed old new)
    × ((size ≤ length old → ⊥) → new ≡ old))
    ⊎ ((status ≡ 3) × (size ≡ 0) × (new ≡ old))
