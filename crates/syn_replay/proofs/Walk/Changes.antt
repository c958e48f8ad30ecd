-- A list of streams in which one is changed: what each then is.
use Rattle.std.proofs.Common.{◌≡◌, refl, ℕ, zero, suc, ◌<◌, [], ◌∷◌, length, Some}
use Rattle.std.proofs.Common.{true, arith}
use Rattle.std.specs.List.{slice_get}
use Rattle.std.proofs.Math.Seq.{map-set_same}
use Rattle.std.proofs.lemmas.List.{length-map}
use Rattle.std.proofs.lemmas.Option.{slice_get-get_or}
use Rattle.syn_replay.specs.Session.State.{AllStreams, Stream, is_open_at, kinds, no_stream}
use Rattle.syn_replay.specs.Session.State.{stream_at, with_stream}

-- a stream that is open is there
pub open_within : (st : AllStreams) (k : ℕ) → is_open_at st k ≡ true → k < length st
open_within [] k h = cc
open_within (s ∷ st) zero h = omega arith
open_within (s ∷ st) (suc k) h = let more = open_within st k h in omega (arith, more)

pub there : (st : AllStreams) (k : ℕ) → is_open_at st k ≡ true
    → slice_get st k ≡ Some (stream_at st k)
there st k h = slice_get-get_or st k no_stream (open_within st k h)

-- what a change keeps of a stream, it keeps of each
pub kept_by : {A : Type 0} (g : Stream → A) (f : Stream → Stream) → ((s : Stream) → g (f s) ≡ g s)
    → (st : AllStreams) (n i : ℕ) → g (stream_at (with_stream st n f) i) ≡ g (stream_at st i)
kept_by g f h [] n i = refl
kept_by g f h (s ∷ st) zero zero = h s
kept_by g f h (s ∷ st) zero (suc i) = refl
kept_by g f h (s ∷ st) (suc n) zero = refl
kept_by g f h (s ∷ st) (suc n) (suc i) = kept_by g f h st n i

pub kinds_changed : (st : AllStreams) (n : ℕ) (f : Stream → Stream)
    → ((s : Stream) → (f s).kind ≡ s.kind)
    → kinds (with_stream st n f) ≡ kinds st
kinds_changed st n f h = grind (arith, map-set_same)

pub same_length : (st us : AllStreams) → kinds st ≡ kinds us → length st ≡ length us
same_length st us e = grind (arith, length-map)
