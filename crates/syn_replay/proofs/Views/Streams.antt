-- Streams of two walks that are alike: at places with equal views, with equal spans of what is
-- recorded.
use Rattle.std.proofs.Common.{◌≡◌, ap, ap₂, refl, ℕ, zero, suc, ◌+◌, ◌==◌, ◌&&◌, ◌||◌, Bool, true}
use Rattle.std.proofs.Common.{false, [], ◌∷◌, ◌++◌, length, Option, Some, None}
use Rattle.std.specs.Prelude.{cond, option_map}
use Rattle.std.specs.Option.{option_or}
use Rattle.tok_leaves.specs.declared.span.Span.{Span}
use Rattle.tok_buffer.specs.Buffer.{Laid}
use Rattle.tok_buffer.specs.Ahead.{Leftover, leftover}
use Rattle.tok_buffer.specs.Place.{Place, empty_place}
use Rattle.tok_buffer.proofs.View.Alike.{Alike, alike-leftover}
use Rattle.syn_replay.specs.Session.State.{Stream, StreamKind, outermost, content_of, a_fork}
use Rattle.syn_replay.specs.Session.State.{AllStreams, kinds, with_stream, moved_to, spent}
use Rattle.syn_replay.specs.Session.State.{spent_if, recording, recording_on_parent, is_content_of}
use Rattle.syn_replay.specs.Session.State.{kind_at, stream_at, is_entered_from, ended_from}
use Rattle.syn_replay.specs.Session.State.{stream_ended, left_from, reported, gathered}
use Rattle.syn_replay.specs.Session.State.{content_closed, moved_to_fork}
use Rattle.std.proofs.Common.{rules}

-- a leftover is compared by its span alone
abbrev pub span_of : Option Leftover → Option Span
span_of l = option_map (λ x. x.span) l

-- a stream but for its place and its leftover
abbrev pub frame : Stream → Stream
frame s = record s { place = empty_place; recorded = None }

module _ (f g : Laid) where
  pub record StreamsAlike (s t : Stream) : Type 0 where
    pub place : Alike f g s.place t.place
    pub same : frame s ≡ frame t
    pub recorded : span_of s.recorded ≡ span_of t.recorded

  -- streams in order are alike, and so are the empty places
  pub data StatesAlike : AllStreams → AllStreams → Type 0 where
    none : Alike f g empty_place empty_place → StatesAlike [] []
    more : {s t : Stream} {st su : AllStreams} → StreamsAlike s t → StatesAlike st su
        → StatesAlike (s ∷ st) (t ∷ su)

  pub alike-at : (st su : AllStreams) (k : ℕ) → StatesAlike st su
      → StreamsAlike (stream_at st k) (stream_at su k)
  alike-at st su k (none h) = record { place = h; same = refl; recorded = refl }
  alike-at st su zero (more h i) = h
  alike-at st su (suc k) (more h i) = alike-at _ _ k i

  pub alike-length : (st su : AllStreams) → StatesAlike st su → length st ≡ length su
  alike-length st su (none h) = refl
  alike-length st su (more h i) = ap suc (alike-length _ _ i)

  pub alike-kinds : (st su : AllStreams) → StatesAlike st su → kinds st ≡ kinds su
  alike-kinds st su (none h) = refl
  alike-kinds st su (more h i) =
      ap₂ (λ k ks. k ∷ ks) (ap (λ z. z.kind) h.same) (alike-kinds _ _ i)

  pub alike-append : (st su : AllStreams) (s t : Stream) → StatesAlike st su → StreamsAlike s t
      → StatesAlike (st ++ s ∷ []) (su ++ t ∷ [])
  alike-append st su s t (none h) k = more k (none h)
  alike-append st su s t (more h i) k = more h (alike-append _ _ s t i k)

  -- a change of one stream
  abbrev ChangesAlike : (Stream → Stream) → (Stream → Stream) → Type 0
  ChangesAlike a b = (s t : Stream) → StreamsAlike s t → StreamsAlike (a s) (b t)

  pub alike-with_stream : (st su : AllStreams) (k : ℕ) (a b : Stream → Stream) → ChangesAlike a b
      → StatesAlike st su → StatesAlike (with_stream st k a) (with_stream su k b)
  alike-with_stream st su k a b c (none h) = none h
  alike-with_stream st su zero a b c (more h i) = more (c _ _ h) i
  alike-with_stream st su (suc k) a b c (more h i) = more h (alike-with_stream _ _ k a b c i)

  pub alike-moved : (p q : Place) → Alike f g p q → ChangesAlike (moved_to p) (moved_to q)
  alike-moved p q h s t k = record { place = h; same = k.same; recorded = k.recorded }

  alike-spent : ChangesAlike spent spent
  alike-spent s t k = search rules

  recorded-or : (a b n m : Option Leftover) → span_of a ≡ span_of b → span_of n ≡ span_of m
      → span_of (option_or a n) ≡ span_of (option_or b m)
  recorded-or None None n m e k = k
  recorded-or None (Some y) n m e k = absurd (cc)
  recorded-or (Some x) None n m e k = absurd (cc)
  recorded-or (Some x) (Some y) n m e k = e

  alike-recording : (n m : Option Leftover) → span_of n ≡ span_of m
      → ChangesAlike (recording n) (recording m)
  alike-recording n m e s t k = search (rules, recorded-or)

  -- Closing.
  alike-on_parent : (k : StreamKind) (n m : Option Leftover) (st su : AllStreams)
      → span_of n ≡ span_of m → StatesAlike st su
      → StatesAlike (recording_on_parent k n st) (recording_on_parent k m su)
  alike-on_parent outermost n m st su e h = h
  alike-on_parent (content_of p) n m st su e h =
      alike-with_stream st su p (recording n) (recording m) (alike-recording n m e) h
  alike-on_parent a_fork n m st su e h = h

  -- what is left inside a stream
  alike-chosen : (b c : Bool) (x y : Option Leftover) → b ≡ c → span_of x ≡ span_of y
      → span_of (cond b x None) ≡ span_of (cond c y None)
  alike-chosen true c x y e h = rw (← e) h
  alike-chosen false c x y e h = rw (← e) refl

  alike-left : (k n : ℕ) (st su : AllStreams) → StatesAlike st su
      → span_of (left_from k n st) ≡ span_of (left_from k n su)
  alike-left k n st su (none h) = refl
  alike-left k n _ _ (more {s} {t} {st} {su} h i) =
      recorded-or _ _ (left_from k (n + 1) st) (left_from k (n + 1) su)
      (alike-chosen (s.is_open && is_content_of k s.kind) (t.is_open && is_content_of k t.kind) _ _
      (ap (λ z. z.is_open && is_content_of k z.kind) h.same)
      (recorded-or _ _ (leftover s.place) (leftover t.place)
      (recorded-or s.recorded t.recorded (left_from n (n + 1) st) (left_from n (n + 1) su)
      h.recorded (alike-left n (n + 1) st su i))
      (alike-leftover f g s.place t.place h.place)))
      (alike-left k (n + 1) st su i)

  alike-gathered : (st su : AllStreams) → StatesAlike st su → (k : ℕ)
      → StreamsAlike (gathered st k) (gathered su k)
  alike-gathered st su h k = search (rules, alike-recording, alike-left, alike-at)

  pub alike-reported : (st su : AllStreams) → StatesAlike st su → (k : ℕ)
      → span_of (reported st k) ≡ span_of (reported su k)
  alike-reported st su h k =
      let i = alike-gathered st su h k in
      recorded-or _ _ _ _ i.recorded (alike-leftover f g _ _ i.place)

  -- streams that end
  alike-if : (b : Bool) (s t : Stream) → StreamsAlike s t
      → StreamsAlike (spent_if b s) (spent_if b t)
  alike-if true s t h = alike-spent s t h
  alike-if false s t h = h

  alike-from : (ends : ℕ → Bool) (n : ℕ) (st su : AllStreams) → StatesAlike st su
      → StatesAlike (ended_from ends n st) (ended_from ends n su)
  alike-from ends n st su (none h) = none h
  alike-from ends n _ _ (more {s} {t} {st} {su} h i) =
      let b = s.is_open && (ends n || is_entered_from ends s.kind) in
      let same : b ≡ (t.is_open && (ends n || is_entered_from ends t.kind)) =
      ap (λ z. z.is_open && (ends n || is_entered_from ends z.kind)) h.same in
      rw (← same)
      (more (alike-if b s t h) (alike-from (λ j. cond (j == n) b (ends j)) (n + 1) st su i))

  pub alike-ended : (k : ℕ) (st su : AllStreams) → StatesAlike st su
      → StatesAlike (stream_ended k st) (stream_ended k su)
  alike-ended k st su h = alike-from (λ n. n == k) 0 st su h

  pub alike-closed : (k : ℕ) (st su : AllStreams) → StatesAlike st su
      → StatesAlike (content_closed k st) (content_closed k su)
  alike-closed k st su h =
      let kind : kind_at st k ≡ kind_at su k = ap (λ z. z.kind) (alike-at st su k h).same in
      rw (← kind)
      (alike-ended k _ _
      (alike-on_parent (kind_at st k) (reported st k) (reported su k) st su
      (alike-reported st su h k) h))

  -- Advancing.
  pub alike-advanced : (k n : ℕ) (st su : AllStreams) → StatesAlike st su
      → StatesAlike (moved_to_fork k n st) (moved_to_fork k n su)
  alike-advanced k n st su h =
      let i = alike-gathered st su h n in
      alike-ended n _ _ (alike-with_stream st su k _ _
      (λ s t j. record {
        place = i.place;
        same = j.same;
        recorded = recorded-or s.recorded t.recorded _ _ j.recorded i.recorded;
      }) h)
