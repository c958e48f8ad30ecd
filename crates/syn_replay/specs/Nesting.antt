-- Streams inside another, and what ends with it.
use Rattle.std.specs.Prelude.{◌≡◌, ℕ, ◌<◌, ◌&&◌, not, true, List}
use Rattle.std.specs.Option.{option_map}
use Rattle.tok_core.specs.Forest.{Forest}
use Rattle.syn_replay.specs.Commands.{Command, on, advance, discard, close}
use Rattle.syn_replay.specs.Reports.{done}
use Rattle.syn_replay.specs.Session.State.{content_of, AllStreams, first_state}
use Rattle.syn_replay.specs.Session.State.{is_entered_from, spent_if, kind_at, closed_inside}
use Rattle.syn_replay.specs.Session.State.{is_inside}
use Rattle.std.specs.List.{slice_get}
use Rattle.syn_replay.specs.Session.State.{is_open_at, is_or_inside}
use Rattle.syn_replay.specs.Session.Step.{step}
use Rattle.syn_replay.specs.Session.Walk.{last_state}

-- after a command that is done, a stream is open if it was and is neither this one nor inside it
abbrev pub EndsWithin : AllStreams → Command → ℕ → Type 0
EndsWithin st c k =
    (step c st).answer ≡ done → (n : ℕ)
    → is_open_at (step c st).state n ≡ (is_open_at st n && not (is_or_inside st k n))

-- the streams inside a stream, and those that end with it
pub record InnerStreamsEnd (st : AllStreams) : Type 0 where
  -- a stream is inside another exactly if its parent is that stream or inside it
  pub inside : (outer n : ℕ) →
      is_inside st outer n ≡ is_entered_from (is_or_inside st outer) (kind_at st n)
  -- a parent has a lower number, so that decides which streams are inside
  pub parent_below : (n p : ℕ) → kind_at st n ≡ content_of p → p < n
  -- the parent of an open content is open
  pub parent_open : (n p : ℕ) →
      is_open_at st n ≡ true → kind_at st n ≡ content_of p → is_open_at st p ≡ true
  -- a discard ends the fork and the streams inside it, and changes nothing else
  pub discarded : (k : ℕ) → (step (on k discard) st).answer ≡ done → (n : ℕ) →
      slice_get (step (on k discard) st).state n
      ≡ option_map (spent_if (is_or_inside st k n)) (slice_get st n)
  -- the streams inside one are closed, and no others, as inside stream 0 at the end of a walk
  pub inside_closed : (k n : ℕ) →
      is_open_at (closed_inside k st) n ≡ (is_open_at st n && not (is_inside st k n))
  -- a close ends its stream and those inside it, and an advance the fork and those inside it
  pub closed : (k : ℕ) → EndsWithin st (on k close) k
  pub advanced : (k f : ℕ) → EndsWithin st (on k (advance f)) f

-- streams end with those around them in each state of a walk
abbrev pub InnerStreamsEndToo : Type 0
InnerStreamsEndToo =
    (f : Forest) (commands : List Command) → InnerStreamsEnd (last_state (first_state f) commands)
