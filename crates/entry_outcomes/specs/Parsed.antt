-- Parsers over entries.
use Rattle.std.specs.Prelude.{◌≡◌, ◌⊎◌, ◌≤◌, ℕ, List, length, Result, Ok, Err}
use Rattle.std.specs.Str.{IsUtf8}
use Rattle.tok_core.specs.Forest.{Forest}
use Rattle.tok_leaves.specs.Spans.{call_site}
use Rattle.syn_parse.specs.Parsers.{ParsesWhole, whole_stream}
use Rattle.syn_parse.specs.Reads.{Call}
use Rattle.syn_parse.specs.declared.fault.Fault.{Fault}
use Rattle.syn_parse.specs.declared.fault.Fault.TheVariants as fault
use Rattle.tok_entries.specs.Blames.{Blames}
use Rattle.tok_entries.specs.Denotes.{Denotes, DenotesNone}
use Rattle.tok_entries.specs.declared.entry.Entry.{Entry}
use Rattle.tok_entries.specs.declared.intake.fault.EntryFault.{EntryFault}
use Rattle.tok_entries.specs.declared.intake.fault.EntryFault.TheVariants as entry
use Rattle.tok_entries.specs.declared.intake.fault.Refusal.{Refusal}
use Rattle.tok_entries.specs.declared.intake.fault.Refusal.TheVariants.{Text}
use Rattle.tok_pruned.specs.Pruned.{pruned}
use Rattle.entry_outcomes.specs.declared.parse.EntriesFault.{EntriesFault}
use Rattle.entry_outcomes.specs.declared.parse.EntriesFault.TheVariants.{Malformed, Rejected, Memory}

-- the fault of a parser, as one of entries
abbrev pub fault_of : Fault → EntriesFault
fault_of (fault.Refused e) = Rejected e
fault_of (fault.Memory e) = Memory

-- the fault of entries that are no stream's, as one of parsed entries
abbrev pub stop_of : EntryFault → EntriesFault
stop_of (entry.Refused refusal n) = Malformed refusal n
stop_of entry.Memory = Memory

-- the result of a parser, as one of entries
abbrev pub result_of : {T : Type 0} → Result T Fault → Result T EntriesFault
result_of (Ok v) = Ok v
result_of (Err f) = Err (fault_of f)

-- the entry with this number is rejected, and why; texts that are no UTF-8 are the first one's
abbrev pub BlamesBytes : List Entry → List ℕ → Refusal → (named : ℕ) → Type 0
BlamesBytes es bs why named =
    (IsUtf8 bs × Blames es bs why named)
    ⊎ ((IsUtf8 bs → ⊥) × (why ≡ Text) × (named ≡ 0))

-- the parser was not run: the entries are no stream's, or an allocation failed
abbrev pub IsStopped : List Entry → List ℕ → EntriesFault → Type 0
IsStopped es bs (Malformed refusal entry) =
    DenotesNone es bs × (entry ≤ length es) × BlamesBytes es bs refusal entry
IsStopped es bs Memory = Unit {0}
IsStopped es bs (Rejected e) = ⊥

-- The entries and texts denote a forest, and this is what the parser returns for its stream without
-- the invisible groups that hold nothing visible; or the parser was not run.
abbrev pub ParsesEntries : {T : Type 0} → Call T → List Entry → List ℕ → Result T EntriesFault
    → Type 0
ParsesEntries {T} parses es bs result =
    ((f : Forest) × (parsed : Result T Fault) × Denotes es bs f
    × ParsesWhole parses (whole_stream (pruned f) call_site) parsed
    × (result ≡ result_of parsed))
    ⊎ ((fault : EntriesFault) × IsStopped es bs fault × (result ≡ Err fault))
