-- What the parser of a derive's input returns for entries.
use Rattle.std.proofs.Common.{arith, ◌≡◌, ◌∙◌, ℕ, List, Err, ap, inl, inr, sym, true}
use Rattle.std.specs.Prelude.{Result}
use Rattle.std.specs.declared.alloc.AllocError.{AllocError}
use Rattle.tok_leaves.specs.Spans.{call_site}
use Rattle.tok_core.specs.Erase.{erase}
use Rattle.tok_core.specs.Filled.{filled}
use Rattle.tok_core.specs.Forest.{Forest}
use Rattle.tok_pruned.specs.Pruned.{pruned}
use Rattle.tok_entries.specs.Denotes.{Denotes}
use Rattle.tok_entries.specs.declared.entry.Entry.{Entry}
use Rattle.syn_parse.proofs.WholeTakes.{parser_keeps}
use Rattle.syn_parse.specs.Reads.{Call}
use Rattle.syn_parse.specs.State.{State}
use Rattle.syn_parse.specs.Takes.{Outcome as Found, TakesAll, found, missing}
use Rattle.syn_parse.specs.Takings.{Keeps}
use Rattle.syn_parse.specs.TreesAhead.{only_trees}
use Rattle.syn_parse.specs.declared.fault.Fault.{Fault}
use Rattle.entry_outcomes.specs.Answers.{Writes}
use Rattle.entry_outcomes.specs.Parsed.{IsStopped, ParsesEntries, result_of}
use Rattle.entry_outcomes.specs.declared.answer.Answer.{Answer}
use Rattle.entry_outcomes.specs.declared.outcome.Message.{Message}
use Rattle.entry_outcomes.specs.declared.outcome.Outcome.{Outcome}
use Rattle.entry_outcomes.specs.declared.parse.EntriesFault.{EntriesFault}
use Rattle.syn_derive.specs.Inputs.{InputForm, input_form, take_input}
use Rattle.syn_derive.specs.declared.derive.DeriveInput.{DeriveInput}
use Rattle.example_fields.specs.Inputs.{AnswersInput, IsTabulated, ParsesInput, TablesAgree, input}
use Rattle.example_fields.specs.Tables.{table}
use Rattle.example_fields.specs.declared.table.Row.{Row}

module _ (es : List Entry) (bs : List ℕ) where
  of_parsed : (f : Forest) (parsed : Result DeriveInput Fault) → Denotes es bs f
      → erase (pruned f) ≡ erase f → filled (pruned f) ≡ true
      → TakesAll input_form take_input (pruned f) call_site parsed
      → ParsesInput es bs (result_of parsed)
  of_parsed f parsed d same fills h = grind arith

  of_stopped : (stop : EntriesFault) → IsStopped es bs stop → ParsesInput es bs (Err stop)
  of_stopped stop h = grind arith

  -- a parser that takes the input of each stream, over entries
  pub input_of_entries : (calls : Call DeriveInput)
      → ((s t : State) (r : Result DeriveInput Fault) → calls s r t → Keeps input s r t)
      → ((f : Forest) → (erase (pruned f) ≡ erase f) × (filled (pruned f) ≡ true))
      → (result : Result DeriveInput EntriesFault) → ParsesEntries calls es bs result
      → ParsesInput es bs result
  input_of_entries calls each fills result (inl (f, parsed, d, whole, same)) =
      let taken =
      parser_keeps input (pruned f) call_site calls each parsed whole (fills f).1 in
      rw same (of_parsed f parsed d (fills f).0 (fills f).1 taken)
  input_of_entries calls each fills result (inr (stop, h, same)) = rw same (of_stopped stop h)

  -- an answer is written
  pub tabulated : (answer : Result (Answer Row) AllocError) (o : Outcome) (old new : List Row)
      (before after : List Message) (from to : List ℕ) → AnswersInput es bs answer
      → Writes answer o old new before after from to
      → IsTabulated es bs o old new before after from to
  tabulated answer o old new before after from to h w = grind arith

-- what is found, and what is not, of one outcome
abbrev found_form : InputForm → Found InputForm → InputForm
found_form other (found form a) = form
found_form other (missing m) = other

-- the same visible trees have one table
pub tables_agree : TablesAgree
tables_agree f g left right same one other =
    ap (λ o. table (found_form left o))
    (sym one ∙ ap (λ t. take_input (only_trees t)) same ∙ other)
