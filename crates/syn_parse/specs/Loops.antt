-- Calls of a loop, which parses values in turn.
use Rattle.std.specs.Prelude.{◌≡◌, ◌≤◌, ℕ, ◌+◌, ◌-◌, Bool, true, false, List, [], ◌∷◌, ◌++◌}
use Rattle.std.specs.Prelude.{Result, Ok, Err, codes, length}
use Rattle.std.specs.Global.{Vec}
use Rattle.tok_buffer.specs.Messages.{message_at}
use Rattle.tok_buffer.specs.Place.{Place, is_at_end}
use Rattle.tok_buffer.specs.Progress.{remaining}
use Rattle.tok_buffer.specs.declared.error.Message.{Message}
use Rattle.syn_parse.specs.Faults.{IsMemory, Refuses}
use Rattle.syn_parse.specs.Reads.{Call}
use Rattle.syn_parse.specs.State.{State, state_span}
use Rattle.syn_parse.specs.declared.fault.Fault.{Fault}

-- the error of a value that took nothing
abbrev pub nothing_taken : State → Message
nothing_taken s = message_at (state_span s) (codes "parser made no progress")

-- values that are parsed in turn, each where the loop goes on, and the stream that they leave
pub data Parsed {T : Type 0} (goes_on : Place → Type 0) (parses : Call T) (s : State)
    : List T → State → Type 0 where
  none_yet : Parsed goes_on parses s [] s
  one_more :
      (vs : List T) (m : State) (v : T) (t : State) → Parsed goes_on parses s vs m
      → goes_on m.place → parses m (Ok v) t → Parsed goes_on parses s (vs ++ v ∷ []) t

-- how many leaves and edges are left up to the scope's end
abbrev pub tokens_left : Place → ℕ
tokens_left p = remaining p - 1

-- how a loop ends, and the stream that it leaves
pub data Loops {T : Type 0} (goes_on ends : Place → Type 0) (parses : Call T) (s : State)
    : Result (Vec T) Fault → State → Type 0 where
  -- it returns the values, since no other one is parsed, and they are no more than the leaves and
  -- edges that were left
  ended :
      (vs : Vec T) (t : State) → Parsed goes_on parses s vs.items t → ends t.place
      → length vs.items ≤ tokens_left s.place → Loops goes_on ends parses s (Ok vs) t
  -- it fails with a value's error, and the stream is where that value left it
  refused :
      (vs : List T) (m : State) (f : Fault) (t : State) → Parsed goes_on parses s vs m
      → goes_on m.place → parses m (Err f) t → Loops goes_on ends parses s (Err f) t
  -- it fails for want of memory, after a value
  lost :
      (vs : List T) (v : T) (f : Fault) (t : State) → Parsed goes_on parses s (vs ++ v ∷ []) t
      → IsMemory f → Loops goes_on ends parses s (Err f) t
  -- it fails after one value more than leaves and edges were left
  stuck :
      (vs : List T) (f : Fault) (t : State) → Parsed goes_on parses s vs t
      → length vs ≡ tokens_left s.place + 1 → Refuses (nothing_taken t) f
      → Loops goes_on ends parses s (Err f) t

-- values as long as a peek is true
abbrev pub LoopsWhile : {T : Type 0} → (Place → Bool → Type 0) → Call T → Call (Vec T)
LoopsWhile peeks = Loops (λ p. peeks p true) (λ p. peeks p false)

-- values up to the end; an empty invisible group is not the end
abbrev pub LoopsToEnd : {T : Type 0} → Call T → Call (Vec T)
LoopsToEnd = Loops (λ p. is_at_end p ≡ false) (λ p. is_at_end p ≡ true)
