-- Nested lists of names, as `(a (b) ((c)))`, and how many names they have.
use Rattle.std.specs.Prelude.{◌≡◌, ◌⊎◌, ◌+◌, ◌^◌, ◌-◌, ℕ, min, true, false, List, Some, None}
use Rattle.std.specs.Prelude.{Ok, Err}
use Rattle.tok_lexical.specs.declared.delimiter.Delimiter.TheVariants.{Parenthesis}
use Rattle.tok_core.specs.Forest.{Tree}
use Rattle.tok_buffer.specs.Entry.{Entered, enter}
use Rattle.tok_buffer.specs.Place.{Place, is_at_end}
use Rattle.tok_buffer.specs.declared.error.Message.{Message}
use Rattle.syn_parse.specs.Faults.{IsMemory, Refuses}
use Rattle.syn_parse.specs.Reads.{Call}
use Rattle.syn_parse.specs.State.{State, after_group, closed, content_of, moved}
use Rattle.syn_parse.specs.ErrorWords.{delimiter_words, refused_at}
use Rattle.syn_parse.specs.declared.fault.Fault.{Fault}
use Rattle.example_callers.specs.Fields.{read_name}

mutual
  -- One entry, how many names it has, and the stream after it: a name; or a list of entries in
  -- parentheses, whose content is closed after them.
  pub data IsEntry : State → ℕ → State → Type 0 where
    name :
        (s : State) (p : Place) (ts : List Tree) → read_name s.place ≡ Some (ts, p) →
        IsEntry s 1 (moved p s)
    list :
        (s end : State) (e : Entered) (n : ℕ) → read_name s.place ≡ None →
        enter Parenthesis s.place ≡ Some e → AreEntries (content_of e) n end →
        IsEntry s n (closed end (after_group e s))

  -- the entries up to the end, and how many names they have together
  pub data AreEntries : State → ℕ → State → Type 0 where
    none : (s : State) → is_at_end s.place ≡ true → AreEntries s 0 s
    one_more :
        (s t end : State) (n m : ℕ) → is_at_end s.place ≡ false → IsEntry s n t →
        AreEntries t m end → AreEntries s (n + m) end

mutual
  -- the error if neither a name nor a list is next, or that of the entries of a list
  pub data EntryRefused : State → Message → Type 0 where
    neither :
        (s : State) → read_name s.place ≡ None → enter Parenthesis s.place ≡ None →
        EntryRefused s (refused_at s (delimiter_words Parenthesis))
    within :
        (s : State) (e : Entered) (words : Message) → read_name s.place ≡ None →
        enter Parenthesis s.place ≡ Some e → EntriesRefused (content_of e) words →
        EntryRefused s words

  -- the error of the first entry that is rejected
  pub data EntriesRefused : State → Message → Type 0 where
    here :
        (s : State) (words : Message) → is_at_end s.place ≡ false → EntryRefused s words →
        EntriesRefused s words
    later :
        (s t : State) (n : ℕ) (words : Message) → is_at_end s.place ≡ false → IsEntry s n t →
        EntriesRefused t words → EntriesRefused s words

-- an error of which this holds, or an allocation failure
abbrev pub IsFault : (Message → Type 0) → Fault → Type 0
IsFault Refused f = IsMemory f ⊎ ((words : Message) × Refused words × Refuses words f)

-- a count, or the largest `u64` if it is above that
abbrev pub capped : ℕ → ℕ
capped n = min n (2 ^ 64 - 1)

-- the names of one entry are counted; the stream's place after an error is not stated
abbrev pub CountsEntry : Call ℕ
CountsEntry s (Ok count) t = (n : ℕ) × IsEntry s n t × (count ≡ capped n)
CountsEntry s (Err f) t = IsFault (EntryRefused s) f

-- the names of all entries up to the end are counted
abbrev pub CountsEntries : Call ℕ
CountsEntries s (Ok count) t = (n : ℕ) × AreEntries s n t × (count ≡ capped n)
CountsEntries s (Err f) t = IsFault (EntriesRefused s) f
