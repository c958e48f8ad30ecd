-- Streams and what they stand for.
use Rattle.std.proofs.Common.{◌≡◌, ℕ, ◌≤◌, ◌<◌, true, false, List, length, get_or, set, ap, sym, ◌∙◌}
use Rattle.std.proofs.Common.{arith}
use Rattle.std.proofs.lemmas.Bool.{le-leb, lt-leb}
use Rattle.std.proofs.lemmas.List.{get_or-map, length-map, map-set}
use Rattle.syn_replay.specs.Session.State.{is_open_at, no_stream, stream_at, with_stream}
use Rattle.syn_replay.specs.Session.State as states
use Rattle.syn_replay.specs.Session.Promises.{IsOpen}
use Rattle.syn_replay.specs.Session.Step.{is_unknown}
use Rattle.syn_replay.specs.Session.Stream.{stream_of, state_of_list}
use Rattle.syn_replay.specs.declared.session.stream.Stream.{Stream}
use Rattle.syn_replay.proofs.Walk.Changes.{open_within}

pub length-state : (xs : List Stream) → length (state_of_list xs) ≡ length xs
length-state xs = length-map xs stream_of

pub stream_there : (xs : List Stream) (n : ℕ) (x : Stream) → x ≡ get_or xs n x → n < length xs
    → stream_at (state_of_list xs) n ≡ stream_of x
stream_there xs n x e h = get_or-map stream_of xs n x no_stream h ∙ ap stream_of (sym e)

pub known_there : (xs : List Stream) (n : ℕ) → n < length xs
    → is_unknown (state_of_list xs) n ≡ false
known_there xs n h = lt-leb (length (state_of_list xs)) n (omega (arith, h, length-state xs))

pub unknown_past : (xs : List Stream) (n : ℕ) → length xs ≤ n
    → is_unknown (state_of_list xs) n ≡ true
unknown_past xs n h = le-leb (length (state_of_list xs)) n (omega (arith, h, length-state xs))

pub changed_there : (xs : List Stream) (n : ℕ) (x y : Stream) (f : states.Stream → states.Stream)
    → x ≡ get_or xs n x → n < length xs → stream_of y ≡ f (stream_of x)
    → state_of_list (set xs n y) ≡ with_stream (state_of_list xs) n f
changed_there xs n x y f e h q = grind (arith, map-set, stream_there)

pub open_there : (xs : List Stream) (n : ℕ) (x : Stream) → x ≡ get_or xs n x → n < length xs
    → is_open_at (state_of_list xs) n ≡ x.is_open
open_there xs n x e h = ap (λ s. s.is_open) (stream_there xs n x e h)

pub open_listed : (xs : List Stream) (n : ℕ) (s : states.Stream) → IsOpen (state_of_list xs) n s
    → n < length xs
open_listed xs n s here = grind (arith, open_within, length-state)
