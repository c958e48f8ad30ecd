-- The contents of a stream.
use Rattle.std.proofs.Common.{◌≡◌, ◌∙◌, sym, ap, refl, ℕ, zero, suc, ◌+◌, ◌≤◌, ◌<◌, inl, inr, Bool}
use Rattle.std.proofs.Common.{true, false, List, [], ◌∷◌, length, drop, get_or, arith, ◌-◌, ◌≢◌}
use Rattle.std.proofs.lemmas.Bool.{cases_lt, eqb-true, eq-eqb, ne_eqb, or_from, and_right}
use Rattle.std.proofs.Math.ListN.{get_or-map}
use Rattle.std.proofs.lemmas.List.{drop_all, drop_more, get_or-drop, length-drop, length-map}
use Rattle.std.specs.Prelude.{cond, ◌==◌, ◌||◌, ◌&&◌}
use Rattle.syn_replay.specs.Session.State.{AllStreams, StreamKind, outermost, content_of}
use Rattle.syn_replay.specs.Session.State.{is_content_of, kind_at, kinds, no_stream}
use Rattle.syn_replay.specs.Session.Links.{contents, contents_by_kind}

-- whether a number is one of a list's
abbrev pub is_among : List ℕ → ℕ → Bool
is_among [] i = false
is_among (k ∷ ks) i = (i == k) || is_among ks i

pub content_is : (kind : StreamKind) (p : ℕ) → is_content_of p kind ≡ true → kind ≡ content_of p
content_is a0 a1 a2 = grind (arith, eqb-true)

-- what is left of the kinds from a number on
from_there : (st : AllStreams) (n : ℕ) → n < length st
    → drop n (kinds st) ≡ kind_at st n ∷ drop (n + 1) (kinds st)
from_there st n h =
    drop_more (kinds st) n outermost (omega (arith, h, length-map st (λ s. s.kind)))
    ∙ ap (λ k. k ∷ drop (n + 1) (kinds st)) (get_or-map (λ s. s.kind) st n no_stream)

-- one stream more
pub contents_at : (k n : ℕ) (st : AllStreams) → n < length st
    → contents k n st
    ≡ cond (is_content_of k (kind_at st n)) (n ∷ contents k (n + 1) st) (contents k (n + 1) st)
contents_at k n st h = ap (contents_by_kind k n) (from_there st n h)

pub contents_past : (k n : ℕ) (st : AllStreams) → length st ≤ n → contents k n st ≡ []
contents_past k n st h = grind (arith, drop_all, length-map)

-- the contents listed are later streams
listed_within : (k n : ℕ) (ks : List StreamKind) (index i : ℕ)
    → index < length (contents_by_kind k n ks) → i ≡ get_or (contents_by_kind k n ks) index i
    → (n ≤ i) × (i < n + length ks)
listed_within k n [] index i h e = absurd (omega arith)
listed_within k n (kind ∷ ks) zero i h e =
    let more = listed_within k (n + 1) ks zero i in grind arith
listed_within k n (kind ∷ ks) (suc j) i h e =
    let same = listed_within k (n + 1) ks (suc j) i in
    let next = listed_within k (n + 1) ks j i in
    grind arith

pub contents_within : (k : ℕ) (st : AllStreams) (index i : ℕ)
    → index < length (contents k (k + 1) st) → i ≡ get_or (contents k (k + 1) st) index i
    → (k < i) × (i < length st)
contents_within k st index i h e = grind (arith, listed_within, length-drop, length-map)

pub not_content : (kind : StreamKind) (k : ℕ) → kind ≢ content_of k → is_content_of k kind ≡ false
not_content a0 a1 a2 = grind (arith, ne_eqb)

among_if : (b : Bool) (n : ℕ) (rest : List ℕ) (i : ℕ)
    → is_among (cond b (n ∷ rest) rest) i ≡ ((b && i == n) || is_among rest i)
among_if a0 a1 a2 a3 = grind arith

none_below : (k n i : ℕ) (ks : List StreamKind) → i < n
    → is_among (contents_by_kind k n ks) i ≡ false
none_below k n i [] l = refl
none_below k n i (kind ∷ ks) l =
    among_if (is_content_of k kind) n _ i
    ∙ or_from _ _ (and_right _ _ (ne_eqb i n (λ q. omega arith)))
    (none_below k (n + 1) i ks (omega arith))

among_kinds : (k n i m : ℕ) (ks : List StreamKind) → i ≡ n + m
    → is_among (contents_by_kind k n ks) i ≡ is_content_of k (get_or ks m outermost)
among_kinds k n i m [] q = refl
among_kinds k n i zero (kind ∷ ks) q =
    let one = among_if (is_content_of k kind) n (contents_by_kind k (n + 1) ks) i in
    let none = none_below k (n + 1) i ks (omega arith) in
    let same = eq-eqb i n (omega arith) in
    grind arith
among_kinds k n i (suc m) (kind ∷ ks) q =
    let one = among_if (is_content_of k kind) n (contents_by_kind k (n + 1) ks) i in
    let more = among_kinds k (n + 1) i m ks (omega arith) in
    let other = ne_eqb i n (λ w. omega arith) in
    grind arith

-- the contents that a stream lists are those of its kind
pub among_own : (k : ℕ) (st : AllStreams)
    → ((m p : ℕ) → kind_at st m ≡ content_of p → p < 0 + m) → (m : ℕ)
    → is_among (contents k (k + 1) st) m ≡ is_content_of k (kind_at st m)
among_own k st above m = elim (cases_lt m (k + 1)) [
  | inl l ↦
      none_below k (k + 1) m (drop (k + 1) (kinds st)) l
      ∙ sym (not_content (kind_at st m) k (λ e. let b = above m k e in omega arith))
  | inr l ↦
      let same : (k + 1) + (m - (k + 1)) ≡ m = omega arith in
      let among = among_kinds k (k + 1) m (m - (k + 1)) (drop (k + 1) (kinds st)) (sym same) in
      let there = get_or-drop (k + 1) (kinds st) (m - (k + 1)) outermost in
      let kind = get_or-map (λ s. s.kind) st m no_stream in
      cc
]
