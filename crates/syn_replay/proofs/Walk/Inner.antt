-- Which streams end with another, and what each then is.
use Rattle.std.proofs.Common.{◌≡◌, ◌∙◌, sym, ap, refl, ℕ, zero, suc, ◌-◌, ◌≤◌, ◌<◌, inl, inr, Bool}
use Rattle.std.proofs.Common.{true, false, length, Some, arith}
use Rattle.std.proofs.lemmas.Bool.{cases_lt}
use Rattle.std.proofs.lemmas.List.{get_or_past}
use Rattle.std.proofs.lemmas.Option.{slice_get-get_or, slice_get_past}
use Rattle.std.specs.List.{slice_get}
use Rattle.std.specs.Option.{option_map}
use Rattle.std.specs.Prelude.{◌==◌, ◌&&◌, ◌||◌, not}
use Rattle.syn_replay.specs.Session.State.{AllStreams, StreamKind, outermost, content_of, a_fork}
use Rattle.syn_replay.specs.Session.State.{is_content_of, is_entered_from, is_open_at, no_stream}
use Rattle.syn_replay.specs.Session.State.{spent_if, kind_at, stream_at, ended_from, is_inside}
use Rattle.syn_replay.specs.Session.State.{is_or_inside, is_entered_within, stream_ended}
use Rattle.syn_replay.specs.Session.State.{closed_inside, kinds}
use Rattle.syn_replay.specs.Session.Step.{is_content}
use Rattle.syn_replay.proofs.Walk.Changes.{same_length}
use Rattle.syn_replay.proofs.Walk.Ends.{Above, entered_either, same_kind, entered_same, look_by}
use Rattle.syn_replay.proofs.Walk.Ends.{ended_length, open_if}
use Rattle.syn_replay.proofs.Walk.Inside.{within_parent}
use Rattle.std.proofs.Common.{rules}

-- a content's parent has a lower number
abbrev pub Nested : AllStreams → Type 0
Nested st = (k p : ℕ) → kind_at st k ≡ content_of p → p < k

-- and is open if the content is
pub record IsSound (st : AllStreams) : Type 0 where
  pub nested : Nested st
  pub parent : (k p : ℕ) → is_open_at st k ≡ true → kind_at st k ≡ content_of p
      → is_open_at st p ≡ true

pub above_all : (st : AllStreams) → Nested st → Above 0 st
above_all st h m p e = let b = h m p e in omega arith

pub none_past : (st : AllStreams) (k p : ℕ) → length st ≤ k → kind_at st k ≡ content_of p → ⊥
none_past st k p l f = grind (arith, get_or_past)

none_within : (depth : ℕ) (st : AllStreams) (outer : ℕ) (kind : StreamKind) → is_content kind
    ≡ false
    → is_entered_within depth st outer kind ≡ false
none_within depth st outer kind h = grind arith

module _ (st : AllStreams) (nested : Nested st) where
  -- a depth that reaches all lower numbers is enough
  deeper : (d outer n : ℕ) (kind : StreamKind) → kind_at st n ≡ kind → n ≤ d
      → is_entered_within d st outer kind ≡ is_entered_within (suc d) st outer kind
  deeper d outer n outermost k h = none_within d st outer outermost refl
  deeper d outer n a_fork k h = none_within d st outer a_fork refl
  deeper zero outer n (content_of p) k h = let b = nested n p k in absurd (omega (arith, b, h))
  deeper (suc d) outer n (content_of p) k h =
      let b = nested n p k in
      ap (λ z. p == outer || z) (deeper d outer p (kind_at st p) refl (omega (arith, b, h)))

  pub by_parent : (outer n : ℕ)
      → is_inside st outer n ≡ is_entered_from (is_or_inside st outer) (kind_at st n)
  by_parent outer n = go (kind_at st n) refl where
    go : (kind : StreamKind) → kind_at st n ≡ kind
        → is_entered_within (length st) st outer kind ≡ is_entered_from (is_or_inside st outer) kind
    go outermost k = none_within (length st) st outer outermost refl
    go a_fork k = none_within (length st) st outer a_fork refl
    go (content_of p) k =
        let b = nested n p k in
        let within : n < length st =
        elim (cases_lt n (length st)) [ inl l ↦ l | inr l ↦ absurd (none_past st n p l k) ] in
        let all : suc (length st - 1) ≡ length st = omega (arith, within) in
        within_parent (length st) st outer p (omega (arith, within))
        ∙ ap (λ z. p == outer || z)
        (deeper (length st - 1) outer p (kind_at st p) refl (omega (arith, b, within))
        ∙ ap (λ d. is_entered_within d st outer (kind_at st p)) all)

-- what is inside a stream is told by the kinds
same_within : (depth : ℕ) (st us : AllStreams) (outer : ℕ) (kind : StreamKind) → kinds st ≡ kinds us
    → is_entered_within depth st outer kind ≡ is_entered_within depth us outer kind
same_within zero st us outer kind e = refl
same_within (suc depth) st us outer outermost e = refl
same_within (suc depth) st us outer a_fork e = refl
same_within (suc depth) st us outer (content_of p) e =
    ap (λ b. p == outer || b) (same_within depth st us outer (kind_at st p) e
    ∙ ap (is_entered_within depth us outer) (same_kind st us e p))

pub same_inside : (st us : AllStreams) (outer n : ℕ) → kinds st ≡ kinds us
    → is_inside st outer n ≡ is_inside us outer n
same_inside st us outer n e = grind (arith, same_within, same_kind, same_length)

-- streams of the same kinds, of which the same are open
pub sound_like : (st mid : AllStreams) → IsSound st → kinds mid ≡ kinds st
    → ((j : ℕ) → is_open_at mid j ≡ is_open_at st j) → IsSound mid
sound_like st mid sound same opens = search (rules, same_kind)

-- what is inside a stream has a higher number
entered_above : (st : AllStreams) → Nested st → (room outer n : ℕ) → n ≤ room → (kind : StreamKind)
    → kind_at st n ≡ kind → is_entered_from (is_or_inside st outer) kind ≡ true → outer < n
entered_above st nested room outer n h outermost k e = cc
entered_above st nested room outer n h a_fork k e = cc
entered_above st nested zero outer n h (content_of p) k e =
    let b = nested n p k in absurd (omega (arith, b, h))
entered_above st nested (suc room) outer n h (content_of p) k e =
    let b = nested n p k in
    let low = entered_above st nested room outer p (omega (arith, b, h)) (kind_at st p) refl in
    let inside = by_parent st nested outer p in
    grind arith

pub inside_above : (st : AllStreams) → Nested st → (outer n : ℕ) → is_inside st outer n ≡ true
    → outer < n
inside_above st nested outer n e =
    entered_above st nested n outer n (omega arith) (kind_at st n) refl
    (sym (by_parent st nested outer n) ∙ e)

-- so no stream with a lower number is
pub not_inside : (st : AllStreams) → Nested st → (outer n : ℕ) → n < outer
    → is_or_inside st outer n ≡ false
not_inside st nested outer n l = let low = inside_above st nested outer n in grind arith

module _ (st : AllStreams) (sound : IsSound st) (k : ℕ) where
  -- the parent of an open stream is open, so what ends is told by the first test and the parents
  look_so : (f g : ℕ → Bool)
      → ((m : ℕ) → g m ≡ (f m || is_entered_from g (kind_at st m))) → (m : ℕ)
      → stream_at (ended_from f 0 st) m ≡ spent_if (g m) (stream_at st m)
  look_so f g e m =
      let look =
      look_by f (λ i. is_open_at st i && g i) st (above_all st sound.nested) (λ i.
      let same : is_open_at st i ≡ true → is_entered_from g (kind_at st i)
      ≡ is_entered_from (λ j. is_open_at st j && g j) (kind_at st i) =
      λ o. entered_same _ _ (kind_at st i) (λ p q. let h = sound.parent i p o q in cc) in
      let is = e i in
      grind arith) m in
      grind arith

  pub ended_look : (m : ℕ)
      → stream_at (stream_ended k st) m ≡ spent_if (is_or_inside st k m) (stream_at st m)
  ended_look =
      look_so (λ n. n == k) (is_or_inside st k)
      (λ m. ap (λ b. (m == k) || b) (by_parent st sound.nested k m))

  -- a stream with a lower number stays
  pub ended_before : (m : ℕ) → m < k → stream_at (stream_ended k st) m ≡ stream_at st m
  ended_before m l = grind (arith, ended_look, not_inside)

  pub inside_look : (m : ℕ)
      → stream_at (closed_inside k st) m ≡ spent_if (is_inside st k m) (stream_at st m)
  inside_look =
      look_so (λ n. is_content_of k (kind_at st n)) (is_inside st k)
      (λ m.
      by_parent st sound.nested k m
      ∙ entered_either (λ n. n == k) (is_inside st k) (is_or_inside st k) (kind_at st m)
      (λ i. refl))

-- after what changes neither kinds nor what is open, a stream ends with those inside it
pub ended_after : (st mid : AllStreams) → IsSound st → kinds mid ≡ kinds st
    → ((j : ℕ) → is_open_at mid j ≡ is_open_at st j) → (k n : ℕ)
    → is_open_at (stream_ended k mid) n ≡ (is_open_at st n && not (is_or_inside st k n))
ended_after st mid sound same opens k n =
    grind (arith, sound_like, ended_look, open_if, same_inside)

-- a stream that is there ends, or stays
pub all_ended : (st : AllStreams) → IsSound st → (k n : ℕ)
    → slice_get (stream_ended k st) n ≡ option_map (spent_if (is_or_inside st k n)) (slice_get st n)
all_ended st sound k n =
    let b = is_or_inside st k n in
    let same = ended_length (λ i. i == k) st in
    elim (cases_lt n (length st)) [
      | inl h ↦
          slice_get-get_or (stream_ended k st) n no_stream (omega (arith, same))
          ∙ ap (λ s. Some s) (ended_look st sound k n)
          ∙ sym (ap (option_map (spent_if b)) (slice_get-get_or st n no_stream h))
      | inr h ↦
          slice_get_past (stream_ended k st) n (omega (arith, same))
          ∙ sym (ap (option_map (spent_if b)) (slice_get_past st n h))
    ]
