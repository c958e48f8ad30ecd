-- A stream is closed into its parent, and a stream advances to a fork.
use Rattle.std.proofs.Common.{◌≡◌, refl, ℕ, Bool, true}
use Rattle.std.specs.Prelude.{◌&&◌, not}
use Rattle.syn_parse.specs.State as parse
use Rattle.tok_buffer.specs.Order.{same_scope}
use Rattle.tok_buffer.specs.Place.{Place}
use Rattle.syn_replay.specs.Commands.{advance}
use Rattle.syn_replay.specs.Reports.{done}
use Rattle.syn_replay.specs.Session.Step.{Stepped, on_stream}
use Rattle.syn_replay.specs.Session.State.{AllStreams, content_of, content_closed, gathered}
use Rattle.syn_replay.specs.Session.State.{is_open_at, is_or_inside, kind_at, moved_as, moved_to_fork}
use Rattle.syn_replay.specs.Session.State.{parse_state, stream_at, stream_ended}
use Rattle.syn_replay.specs.Session.State.{with_stream}
use Rattle.syn_replay.proofs.Walk.Changes.{kept_by}
use Rattle.std.proofs.Common.{arith}
use Rattle.std.proofs.Common.{rules}

-- a stream that is moved elsewhere stays open
pub open_moved : (st : AllStreams) (p k : ℕ) (t : parse.State)
    → is_open_at (with_stream st p (moved_as t)) k ≡ is_open_at st k
open_moved st p k t =
    kept_by (λ s. s.is_open) (moved_as t) (λ s. refl) st p k

module _ (st : AllStreams) (k : ℕ) where
  pub closes_into : (p : ℕ) (content t : parse.State) → kind_at st k ≡ content_of p
      → content ≡ parse_state (gathered st k)
      → t ≡ parse.closed content (parse_state (stream_at st p))
      → stream_ended k (with_stream st p (moved_as t)) ≡ content_closed k st
  closes_into p content t kind c e = grind arith

  pub advances_to : (n : ℕ) (content t : parse.State) → content ≡ parse_state (gathered st k)
      → t ≡ parse.advanced content (parse_state (stream_at st n))
      → stream_ended k (with_stream st n (moved_as t)) ≡ moved_to_fork n k st
  advances_to n content t c e = grind arith

-- the test of an advance, and what it decides
module _ (st : AllStreams) (n f : ℕ) where
  pub scope_found : (input other : parse.State) → input ≡ parse_state (stream_at st n)
      → other ≡ parse_state (gathered st f) → (p q : Place) → p ≡ input.place → q ≡ other.place
      → same_scope (stream_at st n).place (stream_at st f).place ≡ same_scope p q
  scope_found input other e g p q a b = grind arith

  abbrev pub may_advance : Bool
  may_advance =
      same_scope (stream_at st n).place (stream_at st f).place && not (is_or_inside st f n)

  abbrev stepped : Stepped
  stepped = on_stream (advance f) st n (stream_at st n)

  pub advance_taken : (new : AllStreams) → may_advance ≡ true → new ≡ moved_to_fork n f st
      → ((done ≡ stepped.answer) × Unit {0}) × (new ≡ stepped.state)
  advance_taken new e is = search rules
