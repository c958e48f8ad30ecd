-- The position of a stream, and what changes it.
use Rattle.std.proofs.Common.{◌≡◌, ◌≢◌, ◌<◌, ℕ, ◌++◌, [], ◌∷◌, length, arith}
use Rattle.std.proofs.Common.{length-append}
use Rattle.std.proofs.Math.ListN.{get_or-append}
use Rattle.std.proofs.lemmas.Bool.{lt-leb}
use Rattle.std.proofs.lemmas.List.{get_or-set_other, get_or-set_same, length-set}
use Rattle.syn_replay.specs.Session.State.{AllStreams, Stream, printed_position, stream_at}
use Rattle.syn_replay.specs.Session.State.{stream_ended, with_stream}
use Rattle.syn_replay.specs.Session.Step.{stream_position}
use Rattle.syn_replay.proofs.Walk.Ends.{ended_length, ended_place}

module _ (st : AllStreams) (n : ℕ) where
  pub position_open : n < length st → stream_position st n ≡ printed_position (stream_at st n).place
  position_open h = grind (arith, lt-leb)

  -- the stream is changed
  pub position_changed : (f : Stream → Stream) → n < length st
      → stream_position (with_stream st n f) n ≡ printed_position (f (stream_at st n)).place
  position_changed f h = grind (arith, length-set, get_or-set_same, lt-leb)

  -- another stream is changed
  pub position_other : (k : ℕ) (f : Stream → Stream) → n ≢ k
      → stream_position (with_stream st k f) n ≡ stream_position st n
  position_other k f other = grind (arith, length-set, get_or-set_other)

  -- a stream ends
  pub position_ended : (k : ℕ) → stream_position (stream_ended k st) n ≡ stream_position st n
  position_ended k = grind (arith, ended_length, ended_place)

  -- a stream is appended
  pub position_more : (x : Stream) → n < length st
      → stream_position (st ++ x ∷ []) n ≡ stream_position st n
  position_more x h = grind (arith, lt-leb, length-append, get_or-append)
