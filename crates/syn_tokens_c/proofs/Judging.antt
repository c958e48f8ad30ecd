-- What the reader of arguments returns for entries.
use Rattle.std.proofs.Common.{arith, ◌≡◌, ℕ, List, Err, inl, inr, true}
use Rattle.std.specs.Prelude.{Result}
use Rattle.tok_leaves.specs.Spans.{call_site}
use Rattle.tok_core.specs.Erase.{erase}
use Rattle.tok_core.specs.Filled.{filled}
use Rattle.tok_core.specs.Forest.{Forest}
use Rattle.syn_parse.proofs.WholeTakes.{parser_keeps}
use Rattle.syn_parse.specs.Reads.{Call}
use Rattle.syn_parse.specs.State.{State}
use Rattle.syn_parse.specs.Takings.{Keeps}
use Rattle.syn_parse.specs.declared.fault.Fault.{Fault}
use Rattle.arguments.proofs.Outcomes.{parses, says}
use Rattle.arguments.specs.Reading.{arguments}
use Rattle.arguments.specs.Results.{Parses, SaysWhy}
use Rattle.arguments.specs.Values.{Arguments}
use Rattle.entry_outcomes.specs.Parsed.{IsStopped, ParsesEntries, result_of}
use Rattle.entry_outcomes.specs.declared.parse.EntriesFault.{EntriesFault}
use Rattle.tok_entries.specs.Denotes.{Denotes}
use Rattle.tok_entries.specs.declared.entry.Entry.{Entry}
use Rattle.tok_pruned.specs.Pruned.{pruned}
use Rattle.syn_tokens_c.specs.Judged.{ParsesArguments}

module _ (es : List Entry) (bs : List ℕ) where
  of_parsed : (f : Forest) (parsed : Result Arguments Fault) → Denotes es bs f
      → Parses (erase f) parsed → SaysWhy (pruned f) parsed
      → ParsesArguments es bs (result_of parsed)
  of_parsed f parsed d p s = grind arith

  of_stopped : (stop : EntriesFault) → IsStopped es bs stop → ParsesArguments es bs (Err stop)
  of_stopped stop h = grind arith

  -- a reader that takes arguments of each stream, over entries
  pub arguments_of_entries : (calls : Call Arguments)
      → ((s t : State) (r : Result Arguments Fault) → calls s r t → Keeps arguments s r t)
      → ((f : Forest) → (erase (pruned f) ≡ erase f) × (filled (pruned f) ≡ true))
      → (result : Result Arguments EntriesFault) → ParsesEntries calls es bs result
      → ParsesArguments es bs result
  arguments_of_entries calls each fills result (inl (f, parsed, d, whole, same)) =
      let taken =
      parser_keeps arguments (pruned f) call_site calls each parsed whole (fills f).1 in
      let p = rw (fills f).0 at (parses (pruned f) parsed taken) in
      let s = says (pruned f) parsed (fills f).1 taken in
      rw same (of_parsed f parsed d p s)
  arguments_of_entries calls each fills result (inr (stop, h, same)) = rw same (of_stopped stop h)
