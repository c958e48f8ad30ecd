-- A walk accepts if and only if nothing is left over in the streams that count.
use Rattle.std.specs.Prelude.{◌≡◌, ℕ, Bool, true, false, List, ◌∷◌, None}
use Rattle.tok_core.specs.Forest.{Forest}
use Rattle.tok_buffer.specs.Ahead.{leftover}
use Rattle.tok_buffer.specs.Place.{Place}
use Rattle.syn_replay.specs.Commands.{Action, Command, on, advance, discard}
use Rattle.syn_replay.specs.Reports.{done, Verdict, accepted}
use Rattle.syn_replay.specs.Session.State.{content_of, AllStreams, first_state, is_open_at}
use Rattle.syn_replay.specs.Session.State.{closed_inside, kind_at, stream_at}
use Rattle.syn_replay.specs.Session.Step.{step}
use Rattle.syn_replay.specs.Session.Walk.{last_state}

-- a stream of this parent's contents was open, and is not afterwards
pub record EndedInside (before after : AllStreams) (content parent : ℕ) : Type 0 where
  pub was_open : is_open_at before content ≡ true
  pub inside : kind_at before content ≡ content_of parent
  pub ended : is_open_at after content ≡ false

-- the action discards its stream
abbrev pub is_discard : Action → Bool
is_discard discard = true
is_discard a = false

-- of the walk over this forest by these commands
module _ (f : Forest) (cs : List Command) where
  -- it comes to these streams, with these commands still to run
  pub data Comes : AllStreams → List Command → Type 0 where
    begins : Comes (first_state f) cs
    goes_on : (st : AllStreams) (c : Command) (rest : List Command) →
        Comes st (c ∷ rest) → Comes (step c st).state rest

  -- the streams after all commands
  abbrev pub all_run : AllStreams
  all_run = last_state (first_state f) cs

  -- a group's stream is closed into its parent, at this place: by a command other than a discard,
  -- or at the end
  pub data Closes (content parent : ℕ) (p : Place) : Type 0 where
    by_command : (st : AllStreams) (c : Command) (rest : List Command) →
        Comes st (c ∷ rest) → is_discard c.action ≡ false →
        EndedInside st (step c st).state content parent → (stream_at st content).place ≡ p
        → Closes content parent p
    at_end : EndedInside all_run (closed_inside 0 all_run) content parent
        → (stream_at all_run content).place ≡ p → Closes content parent p

  -- a stream advances to a fork
  pub record Advances (stream fork : ℕ) : Type 0 where
    pub before : AllStreams
    pub rest : List Command
    pub comes : Comes before (on stream (advance fork) ∷ rest)
    pub advances : (step (on stream (advance fork)) before).answer ≡ done

  -- Stream 0 counts, a group's stream that is closed into a stream that counts, and a fork to which
  -- a stream that counts advances.
  pub data Counts : ℕ → Type 0 where
    whole : Counts 0
    content : (k parent : ℕ) (p : Place) → Closes k parent p → Counts parent → Counts k
    fork : (stream k : ℕ) → Advances stream k → Counts stream → Counts k

  -- nothing is left at the end of stream 0, nor in a group's stream that is closed into a stream
  -- that counts
  pub record NothingLeft : Type 0 where
    pub whole_read : leftover (stream_at all_run 0).place ≡ None
    pub contents_read : (k parent : ℕ) (p : Place) →
        Closes k parent p → Counts parent → leftover p ≡ None

  -- the verdict accepts if and only if nothing is left
  pub record IsExact (v : Verdict) : Type 0 where
    pub only : v ≡ accepted → NothingLeft
    pub wherever : NothingLeft → v ≡ accepted
