-- A stream ends, and those inside it: what each stream then is.
use Rattle.std.proofs.Common.{◌≡◌, ◌≢◌, ◌∙◌, sym, ap, refl, ℕ, zero, suc, ◌+◌, ◌≤◌, ◌<◌, inl, inr}
use Rattle.std.proofs.Common.{Bool, true, false, List, [], ◌∷◌, ap₂, drop, get_or, length, arith}
use Rattle.std.proofs.lemmas.Bool.{cases_eq, eq-eqb, ne_eqb, le-ltb, lt-ltb}
use Rattle.std.proofs.lemmas.List.{drop_all, drop_more, ext_get_or, places}
use Rattle.std.proofs.Math.ListN.{get_or-map}
use Rattle.std.specs.Prelude.{◌==◌, ◌&&◌, ◌||◌, not, cond, nat_lt}
use Rattle.syn_replay.specs.Session.State.{Stream, AllStreams, StreamKind, content_of}
use Rattle.syn_replay.specs.Session.State.{ended_from, is_entered_from, is_open_at, kinds, spent}
use Rattle.syn_replay.specs.Session.State.{spent_if, kind_at, no_stream, stream_at, stream_ended}
use Rattle.syn_replay.specs.Session.State.{with_stream}
use Rattle.syn_replay.specs.Session.Links.{contents, contents_by_kind}
use Rattle.syn_replay.proofs.Walk.Changes.{kinds_changed, open_within, same_length}
use Rattle.syn_replay.proofs.Walk.Contents.{is_among, among_own}
use Rattle.std.proofs.lemmas.Grind.{get_or-set_at}
use Rattle.std.proofs.Common.{rules}

abbrev Test : Type 0
Test = ℕ → Bool

-- the test where this number is passed
abbrev test_with : Test → ℕ → Bool → Test
test_with f n e = λ i. cond (i == n) e (f i)

abbrev ends_at : Test → ℕ → Stream → Bool
ends_at f n s = s.is_open && (f n || is_entered_from f s.kind)

both_spent : (a b : Bool) (s : Stream) → spent_if b (spent_if a s) ≡ spent_if (a || b) s
both_spent a b s = grind arith

pub open_if : (b : Bool) (s : Stream) → (spent_if b s).is_open ≡ (s.is_open && not b)
open_if b s = grind arith

pub kind_if : (b : Bool) (s : Stream) → (spent_if b s).kind ≡ s.kind
kind_if b s = grind arith

pub kinds_from : (f : Test) (n : ℕ) (st : AllStreams) → kinds (ended_from f n st) ≡ kinds st
kinds_from f n [] = refl
kinds_from f n (s ∷ later) =
    ap₂ (λ k ks. k ∷ ks) (kind_if (ends_at f n s) s)
    (kinds_from (test_with f n (ends_at f n s)) (n + 1) later)

pub ended_length : (f : Test) (st : AllStreams) → length (ended_from f 0 st) ≡ length st
ended_length f st = same_length (ended_from f 0 st) st (kinds_from f 0 st)

place_if : (b : Bool) (s : Stream) → (spent_if b s).place ≡ s.place
place_if b s = grind arith

-- a stream that ends stays at its place
pub ended_place : (f : Test) (n : ℕ) (st : AllStreams) (m : ℕ)
    → (stream_at (ended_from f n st) m).place ≡ (stream_at st m).place
ended_place f n [] m = refl
ended_place f n (s ∷ later) zero = place_if (ends_at f n s) s
ended_place f n (s ∷ later) (suc m) = ended_place (test_with f n (ends_at f n s)) (n + 1) later m

pub same_kind : (st us : AllStreams) → kinds st ≡ kinds us → (m : ℕ)
    → kind_at st m ≡ kind_at us m
same_kind st us e m =
    cc (get_or-map (λ s. s.kind) st m no_stream, get_or-map (λ s. s.kind) us m no_stream)

-- parents have lower numbers
abbrev pub Above : ℕ → AllStreams → Type 0
Above n st = (m p : ℕ) → kind_at st m ≡ content_of p → p < n + m

above_like : (st us : AllStreams) → kinds us ≡ kinds st → Above 0 st → Above 0 us
above_like st us e above m p kind = above m p (sym (same_kind us st e m) ∙ kind)

not_yet : (f : Test) (n i : ℕ) (e : Bool) → i ≢ n → test_with f n e i ≡ f i
not_yet f n i e d = ap (λ b. cond b e (f i)) (ne_eqb i n d)

pub entered_same : (f g : Test) (kind : StreamKind) → ((p : ℕ) → kind ≡ content_of p → f p ≡ g p)
    → is_entered_from f kind ≡ is_entered_from g kind
entered_same f g kind e = grind arith

pub entered_either : (f g h : Test) (kind : StreamKind) → ((i : ℕ) → h i ≡ (f i || g i))
    → is_entered_from h kind ≡ (is_entered_from f kind || is_entered_from g kind)
entered_either f g h kind e = grind arith

-- what ends: an open stream ends if it passes the test, or if its parent ends
record Told (f : Test) (n : ℕ) (st : AllStreams) : Type 0 where
  ends : Test
  before : (i : ℕ) → i < n → ends i ≡ f i
  here : (i m : ℕ) → i ≡ n + m
      → ends i ≡ (is_open_at st m && (f i || is_entered_from ends (kind_at st m)))
  look : (i m : ℕ) → i ≡ n + m
      → stream_at (ended_from f n st) m ≡ spent_if (ends i) (stream_at st m)

told_next : (f : Test) (n : ℕ) (s : Stream) (later : AllStreams) → Above n (s ∷ later)
    → Told (test_with f n (ends_at f n s)) (n + 1) later → Told f n (s ∷ later)
told_next f n s later above t =
    record { ends = t.ends; before = before; here = here; look = look } where
      before : (i : ℕ) → i < n → t.ends i ≡ f i
      before i l = t.before i (omega arith) ∙ not_yet f n i _ (λ q. omega arith)

      now : (i : ℕ) → i ≡ n + 0 → t.ends i ≡ ends_at f n s
      now i q =
          t.before i (omega arith)
          ∙ ap (λ b. cond b (ends_at f n s) (f i)) (eq-eqb i n (omega arith))

      here : (i m : ℕ) → i ≡ n + m → t.ends i
          ≡ (is_open_at (s ∷ later) m && (f i || is_entered_from t.ends (kind_at (s ∷ later) m)))
      here i zero q =
          let same : n ≡ i = omega arith in
          now i q
          ∙ ap₂ (λ a b. s.is_open && (a || b)) (ap f same)
          (entered_same f t.ends s.kind
          (λ p e. let low = above 0 p e in sym (before p (omega arith))))
      here i (suc m) q =
          t.here i m (omega arith)
          ∙ ap (λ z. is_open_at later m && (z || is_entered_from t.ends (kind_at later m)))
          (not_yet f n i _ (λ w. omega arith))

      look : (i m : ℕ) → i ≡ n + m
          → stream_at (ended_from f n (s ∷ later)) m ≡ spent_if (t.ends i) (stream_at (s ∷ later) m)
      look i zero q = ap (λ b. spent_if b s) (sym (now i q))
      look i (suc m) q = t.look i m (omega arith)

told : (f : Test) (n : ℕ) (st : AllStreams) → Above n st → Told f n st
told f n [] above = record {
  ends = λ i. nat_lt i n && f i;
  before = λ i l. ap (λ b. b && f i) (lt-ltb i n l);
  here = λ i m q. ap (λ b. b && f i) (le-ltb i n (omega arith));
  look = λ i m q. ap (λ b. spent_if (b && f i) no_stream) (sym (le-ltb i n (omega arith)));
}
told f n (s ∷ later) above =
    told_next f n s later above
    (told (test_with f n (ends_at f n s)) (n + 1) later
    (λ m p e. let b = above (suc m) p e in omega arith))

-- so each test that says this tells what ends
pub look_by : (f g : Test) (st : AllStreams) → Above 0 st
    → ((m : ℕ) → g m ≡ (is_open_at st m && (f m || is_entered_from g (kind_at st m)))) → (m : ℕ)
    → stream_at (ended_from f 0 st) m ≡ spent_if (g m) (stream_at st m)
look_by f g st above e m =
    t.look m m (omega arith)
    ∙ ap (λ b. spent_if b (stream_at st m)) (same (m + 1) m (omega arith)) where
      t : Told f 0 st
      t = told f 0 st above

      same : (room i : ℕ) → i < room → t.ends i ≡ g i
      same zero i l = absurd (omega arith)
      same (suc room) i l =
          t.here i i (omega arith)
          ∙ ap (λ z. is_open_at st i && (f i || z))
          (entered_same t.ends g (kind_at st i)
          (λ p q. let low = above i p q in same room p (omega arith)))
          ∙ sym (e i)

-- nothing ends if no open stream passes the test
ends_none : (f : Test) (st : AllStreams) → Above 0 st
    → ((m : ℕ) → is_open_at st m ≡ true → f m ≡ false) → ended_from f 0 st ≡ st
ends_none f st above none =
    ext_get_or no_stream _ _ (ended_length f st)
    (λ m _. look_by f (λ i. false) st above (λ i. stays (kind_at st i) _ _ (none i)) m) where
      stays : (kind : StreamKind) (o b : Bool) → (o ≡ true → b ≡ false)
          → false ≡ (o && (b || is_entered_from (λ i. false) kind))
      stays kind o b h = grind arith

-- two tests in turn end what either of them does
module _ (f g h : Test) (st : AllStreams) (above : Above 0 st)
    (e : (i : ℕ) → h i ≡ (f i || g i)) where
  abbrev first : AllStreams
  first = ended_from f 0 st

  one : Told f 0 st
  one = told f 0 st above

  two : Told g 0 first
  two = told g 0 first (above_like st first (kinds_from f 0 st) above)

  abbrev either : Test
  either i = one.ends i || two.ends i

  either_ends : (m : ℕ)
      → either m ≡ (is_open_at st m && (h m || is_entered_from either (kind_at st m)))
  either_ends m =
      let a = one.here m m (omega arith) in
      let b = two.here m m (omega arith) in
      let look = one.look m m (omega arith) in
      let is_open = open_if (one.ends m) (stream_at st m) in
      let kind = kind_if (one.ends m) (stream_at st m) in
      let both = entered_either one.ends two.ends either (kind_at st m) (λ i. refl) in
      let same = e m in
      grind arith

  ends_both : ended_from g 0 first ≡ ended_from h 0 st
  ends_both =
      ext_get_or no_stream _ _
      (ended_length g first ∙ ended_length f st ∙ sym (ended_length h st)) (λ m _.
      two.look m m (omega arith) ∙ ap (spent_if (two.ends m)) (one.look m m (omega arith))
      ∙ both_spent (one.ends m) (two.ends m) (stream_at st m)
      ∙ sym (look_by h either st above either_ends m))

-- the open streams of a list end in turn
abbrev pub ended_each : List ℕ → AllStreams → AllStreams
ended_each [] st = st
ended_each (i ∷ ks) st = ended_each ks (cond (is_open_at st i) (stream_ended i st) st)

each_from : (ks : List ℕ) (st : AllStreams) → Above 0 st
    → ended_each ks st ≡ ended_from (is_among ks) 0 st
each_from [] st above = sym (ends_none (λ i. false) st above (λ m o. refl))
each_from (i ∷ ks) st above =
    ap (ended_each ks) (go (is_open_at st i) refl)
    ∙ each_from ks (stream_ended i st) (above_like st _ (kinds_from (λ n. n == i) 0 st) above)
    ∙ ends_both (λ n. n == i) (is_among ks) (is_among (i ∷ ks)) st above (λ n. refl)
  where
    go : (o : Bool) → is_open_at st i ≡ o → cond o (stream_ended i st) st ≡ stream_ended i st
    go true e = refl
    go false e =
        sym (ends_none (λ n. n == i) st above
        (λ m o. ne_eqb m i (λ q. let same = ap (is_open_at st) q in absurd (cc))))

-- Stream k is spent, and then all that is inside one of its contents ends.
module _ (k : ℕ) (st : AllStreams) (above : Above 0 st) (o : is_open_at st k ≡ true) where
  abbrev us : AllStreams
  us = with_stream st k spent

  spent_at : (m : ℕ) → stream_at us m ≡ spent_if (m == k) (stream_at st m)
  spent_at m = let within = open_within st k o in grind (arith, places, get_or-set_at)

  whole : Told (λ n. n == k) 0 st
  whole = told (λ n. n == k) 0 st above

  abbrev others : Test
  others i = whole.ends i && not (i == k)

  own_or_other : (i : ℕ) → whole.ends i ≡ ((i == k) || others i)
  own_or_other i =
      let here = whole.here i i (omega arith) in
      elim (cases_eq i k) [
        | inl q ↦ let yes = eq-eqb i k q in let is_open = ap (is_open_at st) q in cc
        | inr d ↦ let no = ne_eqb i k d in grind arith
      ]

  others_end : (m : ℕ) → others m ≡ (is_open_at us m
      && (is_among (contents k (k + 1) st) m || is_entered_from others (kind_at us m)))
  others_end m =
      let here = whole.here m m (omega arith) in
      let look = spent_at m in
      let is_open = open_if (m == k) (stream_at st m) in
      let kind = kind_if (m == k) (stream_at st m) in
      let among = among_own k st above m in
      let both = entered_either (λ p. p == k) others whole.ends (kind_at st m) own_or_other in
      grind arith

  pub ends_in_turn : ended_each (contents k (k + 1) st) us ≡ stream_ended k st
  ends_in_turn =
      let same = kinds_changed st k spent (λ s. refl) in
      let us_above = above_like st us same above in
      each_from (contents k (k + 1) st) us us_above
      ∙ ext_get_or no_stream _ _
      (ended_length _ us ∙ same_length us st same ∙ sym (ended_length _ st)) (λ m _.
      look_by _ others us us_above others_end m ∙ ap (spent_if (others m)) (spent_at m)
      ∙ both_spent (m == k) (others m) (stream_at st m)
      ∙ ap (λ b. spent_if b (stream_at st m)) (sym (own_or_other m))
      ∙ sym (whole.look m m (omega arith)))

-- Stream k ends, and then its contents: those from the index on are left.
module _ (st : AllStreams) (k : ℕ) where
  abbrev pub own_contents : List ℕ
  own_contents = contents k (k + 1) st

  pub record EndsOn (now : AllStreams) (index : ℕ) : Type 0 where
    pub same_kinds : kinds now ≡ kinds st
    pub rest : ended_each (drop index own_contents) now ≡ stream_ended k st

  pub ends_first : Above 0 st → is_open_at st k ≡ true → EndsOn (with_stream st k spent) 0
  ends_first above o = search (rules, kinds_changed, ends_in_turn)

  module _ (now : AllStreams) (index : ℕ) (e : EndsOn now index) where
    pub ends_list : contents k (k + 1) now ≡ own_contents
    ends_list = ap (λ ks. contents_by_kind k (k + 1) (drop (k + 1) ks)) e.same_kinds

    pub ends_length : length now ≡ length st
    ends_length = same_length now st e.same_kinds

    pub ends_last : length own_contents ≤ index → now ≡ stream_ended k st
    ends_last h = sym (ap (λ ks. ended_each ks now) (drop_all index own_contents h)) ∙ e.rest

    pub ends_next : (i : ℕ) → index < length own_contents → i ≡ get_or own_contents index i
        → (then : AllStreams) → then ≡ cond (is_open_at now i) (stream_ended i now) now
        → EndsOn then (index + 1)
    ends_next i h at then is = search (rules, drop_more, kinds_from)
