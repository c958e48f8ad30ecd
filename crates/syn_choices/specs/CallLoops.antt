-- Loops of a function, which parses values in turn.
use Rattle.std.specs.Prelude.{◌≡◌, ℕ, ◌+◌, ◌<◌, ◌≤◌, Bool, true, false, List, [], ◌∷◌, ◌++◌}
use Rattle.std.specs.Prelude.{Result, Ok, Err, length}
use Rattle.std.specs.Global.{Vec}
use Rattle.tok_buffer.specs.Order.{same_scope}
use Rattle.tok_buffer.specs.Place.{Place, is_at_end}
use Rattle.tok_buffer.specs.Progress.{remaining}
use Rattle.syn_parse.specs.Faults.{IsMemory, Refuses}
use Rattle.syn_parse.specs.Loops.{nothing_taken}
use Rattle.syn_parse.specs.State.{State}
use Rattle.syn_parse.specs.declared.fault.Fault.{Fault}
use Rattle.syn_punctuated.specs.Turns.{ValueCall}

-- after so many values a loop may go on here: fewer than `remaining` counts at its start, in whose
-- scope it still is, with no more left
abbrev pub MayGoOn : Place → ℕ → Place → Type 0
MayGoOn start count here =
    (count < remaining start) × (same_scope start here ≡ true) × (remaining here ≤ remaining start)

-- another value is wanted, and the function is called
abbrev pub CallsNext : {F T : Type 0} → (Place → Type 0) → ValueCall F T → ValueCall F T
CallsNext goes_on calls f s answer g t = goes_on s.place × calls f s answer g t

-- values that calls of a function return in turn, and the function and the stream after them
pub data Called {F T : Type 0} (goes_on : Place → Type 0) (calls : ValueCall F T) (f : F)
    (s : State) : List T → F → State → Type 0 where
  no_call : Called goes_on calls f s [] f s
  one_more_call :
      (vs : List T) (g : F) (m : State) (v : T) (h : F) (t : State)
      → Called goes_on calls f s vs g m → CallsNext goes_on calls g m (Ok v) h t
      → MayGoOn s.place (length vs + 1) t.place → Called goes_on calls f s (vs ++ v ∷ []) h t

-- how a loop of a function ends, and the stream that it leaves
pub data LoopsBy {F T : Type 0} (goes_on ends : Place → Type 0) (calls : ValueCall F T) (f : F)
    (s : State) : Result (Vec T) Fault → State → Type 0 where
  -- it returns the values, since no other one is wanted
  ended :
      (vs : Vec T) (g : F) (t : State) → Called goes_on calls f s vs.items g t → ends t.place
      → LoopsBy goes_on ends calls f s (Ok vs) t
  -- it fails with a call's error, and the stream is where that call left it
  refused :
      (vs : List T) (g : F) (m : State) (e : Fault) (h : F) (t : State)
      → Called goes_on calls f s vs g m → CallsNext goes_on calls g m (Err e) h t
      → LoopsBy goes_on ends calls f s (Err e) t
  -- it fails for want of memory, after a value
  lost :
      (vs : List T) (g : F) (m : State) (v : T) (h : F) (t : State) (e : Fault)
      → Called goes_on calls f s vs g m → CallsNext goes_on calls g m (Ok v) h t → IsMemory e
      → LoopsBy goes_on ends calls f s (Err e) t
  -- it fails after a value with which it may not go on
  stuck :
      (vs : List T) (g : F) (m : State) (v : T) (h : F) (t : State) (e : Fault)
      → Called goes_on calls f s vs g m → CallsNext goes_on calls g m (Ok v) h t
      → (MayGoOn s.place (length vs + 1) t.place → ⊥) → Refuses (nothing_taken t) e
      → LoopsBy goes_on ends calls f s (Err e) t

-- values by a function as long as a peek is true
abbrev pub LoopsWhileBy : {F T : Type 0} → (Place → Bool → Type 0) → ValueCall F T → F → State
    → Result (Vec T) Fault → State → Type 0
LoopsWhileBy peeks = LoopsBy (λ p. peeks p true) (λ p. peeks p false)

-- values by a function up to the end; an empty invisible group is not the end
abbrev pub LoopsToEndBy : {F T : Type 0} → ValueCall F T → F → State → Result (Vec T) Fault → State
    → Type 0
LoopsToEndBy = LoopsBy (λ p. is_at_end p ≡ false) (λ p. is_at_end p ≡ true)
