-- Entries that are no stream's are not parsed.
use Rattle.std.proofs.Common.{◌≡◌, ℕ, List, length, Err, arith}
use Rattle.syn_parse.specs.Reads.{Call}
use Rattle.tok_entries.specs.Denotes.{DenotesNone}
use Rattle.tok_entries.specs.Refusals.{IsAmong, OnDenied, OnRejected}
use Rattle.tok_entries.specs.declared.entry.Entry.{Entry}
use Rattle.tok_entries.specs.declared.intake.fault.EntryFault.{EntryFault}
use Rattle.entry_outcomes.specs.Parsed.{BlamesBytes, ParsesEntries, stop_of}
use Rattle.entry_outcomes.specs.declared.parse.EntriesFault.{EntriesFault}

pub stops : {T : Type 0} (calls : Call T) (es : List Entry) (bs : List ℕ) (fault : EntryFault)
    (made : EntriesFault) → made ≡ stop_of fault → OnDenied fault (DenotesNone es bs)
    → OnRejected fault (BlamesBytes es bs) → IsAmong 0 (length es) fault
    → ParsesEntries calls es bs (Err made)
stops calls es bs fault made same none blames among = grind arith
