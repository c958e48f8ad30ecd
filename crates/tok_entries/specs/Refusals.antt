-- Why entries are rejected: the text, and what holds then.
use Rattle.std.specs.Prelude.{◌≤◌, ◌+◌, List, ℕ, ◌++◌, codes}
use Rattle.std.specs.Fmt.{decimal}
use Rattle.tok_entries.specs.declared.intake.fault.EntryFault.{EntryFault}
use Rattle.tok_entries.specs.declared.intake.fault.EntryFault.TheVariants.{Refused, Memory}
use Rattle.tok_entries.specs.declared.intake.fault.Refusal.{Refusal}
use Rattle.tok_entries.specs.declared.intake.fault.Refusal.TheVariants.{Shape, Text, Depth}

-- the message of each reason to reject an entry
abbrev pub refusal_words : Refusal → List ℕ
refusal_words Shape = codes "a field does not fit"
refusal_words Text = codes "not a token of this kind"
refusal_words Depth = codes "groups nested too deep"

-- the number of the rejected entry and the reason, or the message of an allocation failure
abbrev pub entry_fault_words : EntryFault → List ℕ
entry_fault_words (Refused refusal number) =
    codes "entry " ++ (decimal number ++ (codes ": " ++ refusal_words refusal))
entry_fault_words Memory = codes "out of memory"

-- this holds, unless an allocation failed
abbrev pub OnDenied : EntryFault → Type 0 → Type 0
OnDenied (Refused why number) P = P
OnDenied Memory P = Unit {0}

-- this holds of the reason and of the entry's number, unless an allocation failed
abbrev pub OnRejected : EntryFault → (Refusal → ℕ → Type 0) → Type 0
OnRejected (Refused why number) P = P why number
OnRejected Memory P = Unit {0}

-- the error names one of so many entries from this one on, or the one after them
abbrev pub IsAmong : ℕ → ℕ → EntryFault → Type 0
IsAmong first count (Refused refusal number) = (first ≤ number) × (number ≤ first + count)
IsAmong first count Memory = Unit {0}
