-- A run of a list parser: turns, each of which starts where the last one ended, and an ending.
use Rattle.std.specs.Prelude.{◌≡◌, Bool, true, false, List, [], ◌∷◌, ◌++◌, map, Result, Ok, Err}
use Rattle.std.specs.Prelude.{codes}
use Rattle.tok_buffer.specs.Place.{Place, is_at_end}
use Rattle.tok_buffer.specs.Messages.{plain}
use Rattle.tok_buffer.specs.declared.error.Message.{Message}
use Rattle.syn_parse.specs.Faults.{IsMemory, Refuses}
use Rattle.syn_parse.specs.Reads.{Call}
use Rattle.syn_parse.specs.State.{State}
use Rattle.syn_parse.specs.declared.fault.Fault.{Fault}
use Rattle.syn_punctuated.specs.Lists.{values_of, separators_of}
use Rattle.syn_punctuated.specs.Progress.{MakesNone, progresses}
use Rattle.syn_punctuated.specs.declared.punctuated.Punctuated.{Punctuated}

-- what a call of a value parser does: the parser and the stream before it, its result, and the
-- parser and the stream after it
abbrev pub ValueCall : Type 0 → Type 0 → Type 1
ValueCall F T = F → State → Result T Fault → F → State → Type 0

-- the places at which a turn begins, or the list ends without another one; and those at which a
-- separator follows a value, or the list ends with the value
pub record Rule : Type 1 where
  pub begins : Place → Type 0
  pub ends : Place → Type 0
  pub goes_on : Place → Type 0
  pub stops : Place → Type 0

-- a value unless nothing is left, and a separator after it unless nothing is left
abbrev pub terminated : Rule
terminated = record {
  begins = λ p. is_at_end p ≡ false;
  ends = λ p. is_at_end p ≡ true;
  goes_on = λ p. is_at_end p ≡ false;
  stops = λ p. is_at_end p ≡ true;
}

-- always a value, and a separator after it if the separator's peek is true
abbrev pub separated : (peeks : Place → Bool → Type 0) → Rule
separated peeks = record {
  begins = λ _. Unit {0};
  ends = λ _. ⊥;
  goes_on = λ p. peeks p true;
  stops = λ p. peeks p false;
}

-- A full turn: its value and separator; the value parser after the value; the stream between the
-- two, and after both.
pub record Turn (T P F : Type 0) : Type 0 where
  pub value : T
  pub between : State
  pub parser : F
  pub separator : P
  pub after : State

-- the value of a turn
abbrev pub turn_value : {T P F : Type 0} → Turn T P F → T
turn_value turn = turn.value

-- the separator of a turn
abbrev pub turn_separator : {T P F : Type 0} → Turn T P F → P
turn_separator turn = turn.separator

-- the list has the values of the turns, then these, and the separators of the turns
abbrev pub Holds : {T P F : Type 0} → List (Turn T P F) → List T → Result (Punctuated T P) Fault
    → Type 0
Holds turns more (Ok list) =
    (values_of list ≡ map turn_value turns ++ more)
    × (separators_of list ≡ map turn_separator turns)
Holds turns more (Err fault) = ⊥

-- the error of a turn without progress
abbrev pub no_progress : State → Message
no_progress s = plain s.place s.scope_span (codes "parser made no progress")

-- `reads` is what calls of the value parser do, `separates` what parses of a separator do
module _ {T P F : Type 0} (rule : Rule) (reads : ValueCall F T) (separates : Call P) where
  -- a turn begins, and the value parser is called
  abbrev pub Begins : ValueCall F T
  Begins f s answer g m = rule.begins s.place × reads f s answer g m

  -- a full turn from here
  pub record IsTurn (f : F) (s : State) (turn : Turn T P F) : Type 0 where
    pub opens : Begins f s (Ok turn.value) turn.parser turn.between
    pub goes_on : rule.goes_on turn.between.place
    pub closes : separates turn.between (Ok turn.separator) turn.after

  -- full turns, each with progress, from the first parser and stream to the last
  abbrev pub Chain : F → State → List (Turn T P F) → F → State → Type 0
  Chain f s [] g t = (f ≡ g) × (s ≡ t)
  Chain f s (turn ∷ turns) g t =
      IsTurn f s turn × (progresses s.place turn.after.place ≡ true)
      × Chain turn.parser turn.after turns g t

  -- full turns lead from the first parser and stream to these, and another turn begins here
  pub record LeadsToTurn (f : F) (s : State) (g : F) (t : State) : Type 0 where
    pub turns : List (Turn T P F)
    pub chain : Chain f s turns g t
    pub begins : rule.begins t.place

  -- how a run ends from here, after these turns
  pub data Ending (f : F) (s : State) (turns : List (Turn T P F))
      (result : Result (Punctuated T P) Fault) (t : State) : Type 0 where
    -- in the place of another turn
    at_end : rule.ends s.place → t ≡ s → Holds turns [] result → Ending f s turns result t
    -- with a value that no separator follows
    bare :
        (v : T) (g : F) → Begins f s (Ok v) g t → rule.stops t.place
        → Holds turns (v ∷ []) result → Ending f s turns result t
    -- with the error of a value
    value_refused :
        (e : Fault) (g : F) → Begins f s (Err e) g t → result ≡ Err e
        → Ending f s turns result t
    -- with the error of a separator
    separator_refused :
        (v : T) (g : F) (m : State) (e : Fault) → Begins f s (Ok v) g m → rule.goes_on m.place
        → separates m (Err e) t → result ≡ Err e → Ending f s turns result t
    -- with an allocation failure for a value that no separator follows
    value_lost :
        (v : T) (g : F) (e : Fault) → Begins f s (Ok v) g t → rule.stops t.place → IsMemory e
        → result ≡ Err e → Ending f s turns result t
    -- with an allocation failure for a full turn
    turn_lost :
        (turn : Turn T P F) (e : Fault) → IsTurn f s turn → t ≡ turn.after → IsMemory e
        → result ≡ Err e → Ending f s turns result t
    -- with a full turn that made no progress
    stuck :
        (turn : Turn T P F) (e : Fault) → IsTurn f s turn → t ≡ turn.after
        → MakesNone s.place t.place → Refuses (no_progress t) e → result ≡ Err e
        → Ending f s turns result t

  -- a run from a value parser and a stream, with its result and what it leaves of the stream
  pub record IsRun (f : F) (s : State) (result : Result (Punctuated T P) Fault) (t : State) : Type 0
    where
      pub turns : List (Turn T P F)
      pub parser : F
      pub last : State
      pub chain : Chain f s turns parser last
      pub ending : Ending parser last turns result t

-- a run of a value parser that has no state of its own
abbrev pub IsPlainRun : {T P : Type 0} → Rule → Call T → Call P → Call (Punctuated T P)
IsPlainRun rule parses separates s result t =
    IsRun rule (λ (_ : Unit {0}) s answer _ t. parses s answer t) separates tt s result t
