-- What holds of all streams: peeks tell what a parse does, and a fork may run in its stream's
-- place.
use Rattle.std.specs.Prelude.{◌≡◌, ℕ, Bool, true, false, Result, Ok, Err}
use Rattle.tok_leaves.specs.declared.span.Span.{Span}
use Rattle.tok_core.specs.Erase.{erase}
use Rattle.tok_core.specs.Forest.{Forest}
use Rattle.tok_buffer.specs.Entry.{enter}
use Rattle.tok_buffer.specs.Messages.{message_at}
use Rattle.tok_buffer.specs.Order.{same_scope}
use Rattle.tok_buffer.specs.Place.{Place}
use Rattle.tok_types.specs.Delimiters.{delimiter_at}
use Rattle.tok_types.specs.declared.delimiter.Visible.{Visible}
use Rattle.syn_parse.specs.Faults.{Refuses}
use Rattle.syn_parse.specs.Groups.{AreParts, Enters}
use Rattle.syn_parse.specs.Positions.{Missing, only_span}
use Rattle.syn_parse.specs.Reads.{Call}
use Rattle.syn_parse.specs.State.{State, advanced, closed, forked, moved}
use Rattle.syn_parse.specs.ErrorWords.{delimiter_words, refused_at}
use Rattle.syn_parse.specs.Takes.{Says}
use Rattle.syn_parse.specs.TreesAhead.{scope_of}
use Rattle.syn_parse.specs.declared.fault.Fault.{Fault}
use Rattle.syn_parse.specs.declared.fault.Fault.TheVariants.{Refused, Memory}
use Rattle.syn_parse.specs.declared.group.Delimited.{Delimited}

-- a value if the peek was true, an error if it was false; or an allocation failure
abbrev pub Tells : {T : Type 0} → Bool → Result T Fault → Type 0
Tells found (Ok v) = found ≡ true
Tells found (Err (Refused e)) = found ≡ false
Tells found (Err (Memory e)) = Unit {0}

-- the peek is true if and only if the call returns a value
abbrev pub PeekTells : {T : Type 0} → (Place → Bool → Type 0) → Call T → Type 0
PeekTells {T} peeks calls =
    (s : State) (found : Bool) (r : Result T Fault) (t : State) →
    peeks s.place found → calls s r t → Tells found r

-- how the readers of visible groups enter
abbrev pub VisibleGroupParses : {D : ℕ} → Call (Delimited (Visible D))
VisibleGroupParses {D} s =
    let words = refused_at s (delimiter_words (delimiter_at D)) in
    Enters (λ p. AreParts p.token.span p.content) (enter (delimiter_at D) s.place) words s

-- A fork may run in place of its stream. Moving or closing on the fork, and then advancing to it,
-- equals advancing to it and then moving or closing. A new fork is at the place of its stream.
pub record ForksFollow : Type 0 where
  pub new : (s : State) → advanced (forked s) s ≡ s
  pub moving : (p : Place) (fork s : State) →
      advanced (moved p fork) s ≡ moved p (advanced fork s)
  pub closing : (content fork s : State) →
      advanced (closed content fork) s ≡ closed content (advanced fork s)

-- in a scope without invisible groups an error says what is missing at the one span of its position
abbrev pub ErrorsHaveOneSpan : Type 0
ErrorsHaveOneSpan =
    (f : Forest) → erase f ≡ f → (scope : Span) (m : Missing) (e : Fault) → Says f scope m e
    → Refuses (message_at (only_span scope m.position) m.words) e

-- places of one scope share it
abbrev pub ScopesTell : Type 0
ScopesTell = (p q : Place) → scope_of q ≡ scope_of p → same_scope p q ≡ true
