-- Lists of contents that stay, and one that grows.
use Rattle.std.proofs.Common.{rules, ◌≡◌, ◌∙◌, sym, ap, refl, ℕ, zero, suc, ◌+◌, ◌≤◌, ◌<◌, ◌⊎◌, inl}
use Rattle.std.proofs.Common.{inr, ◌≢◌, Bool, true, false, List, [], ◌∷◌, ◌++◌, length}
use Rattle.std.proofs.Common.{length-append, drop, get_or, set, length-set, Option, Some, None}
use Rattle.std.proofs.Common.{arith}
use Rattle.std.proofs.Math.ListN.{get_or-map}
use Rattle.std.proofs.Math.Seq.{map-set_same}
use Rattle.std.proofs.lemmas.Bool.{eq-eqb, ne_eqb}
use Rattle.std.proofs.lemmas.List.{append-nil, drop-append-le, get_or_past, length-drop, length-map}
use Rattle.std.proofs.lemmas.List.{map-append, map-set}
use Rattle.std.proofs.lemmas.Option.{slice_get_cases, slice_get_read, slice_get_within}
use Rattle.syn_replay.proofs.Walk.Ends.{Above}
use Rattle.std.specs.List.{slice_get}
use Rattle.std.specs.Prelude.{cond}
use Rattle.syn_replay.specs.Session.Links.{IsListed, AreListed, contents, contents_by_kind}
use Rattle.syn_replay.specs.Session.State.{StreamKind, content_of, is_content_of, kinds, no_stream}
use Rattle.syn_replay.specs.Session.Stream.{stream_kind, state_of_list, stream_of}
use Rattle.syn_replay.specs.declared.session.stream.Stream.{Stream}
use Rattle.syn_replay.proofs.Walk.Contents.{contents_past}
use Rattle.syn_replay.proofs.Walk.Streams.{length-state, stream_there}

pub listed_at : (xs : List Stream) (k : ℕ) (x : Stream) → AreListed xs → x ≡ get_or xs k x
    → k < length xs → IsListed xs k x
listed_at xs k x h e l = h k x (slice_get_read xs (length xs) k x refl l e)

pub parent_below : (xs : List Stream) (k p : ℕ) (x : Stream) → AreListed xs → x ≡ get_or xs k x
    → k < length xs → x.parent ≡ Some p → p < k
parent_below xs k p x h e l q = (listed_at xs k x h e l).parent p q

-- which stream is at a number after a change, and after one more
in_set : (xs : List Stream) (n : ℕ) (y : Stream) (k : ℕ) (s : Stream)
    → slice_get (set xs n y) k ≡ Some s
    → ((k ≡ n) × (s ≡ y)) ⊎ ((k ≢ n) × (slice_get xs k ≡ Some s))
in_set [] n y k s e = absurd (cc)
in_set (x ∷ xs) zero y zero s e = inl (refl, cc)
in_set (x ∷ xs) zero y (suc k) s e = inr (λ q. cc, e)
in_set (x ∷ xs) (suc n) y zero s e = inr (λ q. cc, e)
in_set (x ∷ xs) (suc n) y (suc k) s e =
    elim (in_set xs n y k s e) [
      | inl q ↦ inl (ap suc q.0, q.1)
      | inr o ↦ inr (λ q. o.0 (cc), o.1)
    ]

in_appended : (xs : List Stream) (y : Stream) (k : ℕ) (s : Stream)
    → slice_get (xs ++ y ∷ []) k ≡ Some s → (slice_get xs k ≡ Some s) ⊎ ((k ≡ length xs) × (s ≡ y))
in_appended [] y zero s e = inr (refl, cc)
in_appended [] y (suc k) s e = cc
in_appended (x ∷ xs) y zero s e = inl e
in_appended (x ∷ xs) y (suc k) s e =
    elim (in_appended xs y k s e) [ inl o ↦ inl o | inr q ↦ inr (ap suc q.0, q.1) ]

-- a stream is changed, but neither its kind nor its contents
same_kinds : (xs : List Stream) (n : ℕ) (x y : Stream) → x ≡ get_or xs n x
    → (stream_of y).kind ≡ (stream_of x).kind
    → kinds (state_of_list (set xs n y)) ≡ kinds (state_of_list xs)
same_kinds xs n x y e h =
    ap kinds (map-set stream_of xs n y)
    ∙ map-set_same (λ s. s.kind) (state_of_list xs) n (stream_of y) (stream_of x)
    (h ∙ ap (λ s. s.kind) (ap stream_of e ∙ sym (get_or-map stream_of xs n x)))

pub listed_set : (xs : List Stream) (n : ℕ) (x y : Stream) → AreListed xs → x ≡ get_or xs n x
    → n < length xs → (stream_of y).kind ≡ (stream_of x).kind → y.parent ≡ x.parent
    → y.contents.items ≡ x.contents.items → AreListed (set xs n y)
listed_set xs n x y h e l kind parent list k s there =
    let same = same_kinds xs n x y e kind in
    let all : contents k (k + 1) (state_of_list xs)
    ≡ contents k (k + 1) (state_of_list (set xs n y)) =
    ap (λ z. contents_by_kind k (k + 1) (drop (k + 1) z)) (sym same) in
    elim (in_set xs n y k s there) [
      | inl q ↦
          let was : IsListed xs n x = listed_at xs n x h e l in
          rw q.1 (record {
            parent = λ p f. let below = was.parent p (sym parent ∙ f) in omega (arith, below, q.0);
            listed =
                list ∙ was.listed
                ∙ ap (λ z. contents z (z + 1) (state_of_list xs)) (sym q.0) ∙ all;
          })
      | inr o ↦
          let was = h k s o.1 in
          record { parent = was.parent; listed = was.listed ∙ all }
    ]

-- one stream more
more_by_kind : (k n : ℕ) (ks : List StreamKind) (kind : StreamKind)
    → contents_by_kind k n (ks ++ kind ∷ [])
    ≡ contents_by_kind k n ks ++ cond (is_content_of k kind) ((n + length ks) ∷ []) []
more_by_kind k n [] kind = search rules
more_by_kind k n (j ∷ ks) kind =
    let same : n + 1 + length ks ≡ n + suc (length ks) = omega arith in
    let more = more_by_kind k (n + 1) ks kind in
    grind arith

contents_more : (k from : ℕ) (xs : List Stream) (y : Stream) → from ≤ length xs
    → contents k from (state_of_list (xs ++ y ∷ []))
    ≡ contents k from (state_of_list xs)
    ++ cond (is_content_of k (stream_of y).kind) (length xs ∷ []) []
contents_more k from xs y h =
    grind (arith, length-map, length-state, length-drop, map-append, drop-append-le, more_by_kind)

-- one stream more, which the stream lists that it is a content of, and which lists none
listed_with : (xs zs : List Stream) (y : Stream) → AreListed xs → length zs ≡ length xs
    → kinds (state_of_list zs) ≡ kinds (state_of_list xs)
    → ((k : ℕ) (s : Stream) → slice_get zs k ≡ Some s → (x : Stream) × (slice_get xs k ≡ Some x)
    × (s.parent ≡ x.parent) × (s.contents.items
    ≡ x.contents.items ++ cond (is_content_of k (stream_of y).kind) (length xs ∷ []) []))
    → ((p : ℕ) → y.parent ≡ Some p → p < length xs) → y.contents.items ≡ []
    → AreListed (zs ++ y ∷ [])
listed_with xs zs y h len same old below none k s at =
    elim (in_appended zs y k s at) [
      | inl o ↦
          let (x, was_at, parent, list) = old k s o in
          let was = h k x was_at in
          let within = slice_get_within zs k s o in
          let before = ap (λ z. contents_by_kind k (k + 1) (drop (k + 1) z)) same in
          let more = contents_more k (k + 1) zs y (omega arith) in
          record { parent = λ p f. was.parent p (sym parent ∙ f); listed = cc }
      | inr q ↦
          rw (q.0, q.1) (record {
            parent = λ p f. let b = below p f in omega arith;
            listed =
                none
                ∙ sym (contents_past (length zs) (length zs + 1) (state_of_list (zs ++ y ∷ []))
                (omega (arith, length-state (zs ++ y ∷ []), length-append zs (y ∷ []))));
          })
    ]

-- a stream without a parent is no content
no_parent : (f : Bool) (o : Option ℕ) (k : ℕ) → o ≡ None → is_content_of k (stream_kind f o) ≡ false
no_parent f o k e = grind arith

-- a fork
listed_with_fork : (xs : List Stream) (y : Stream) → AreListed xs → y.parent ≡ None
    → y.contents.items ≡ [] → AreListed (xs ++ y ∷ [])
listed_with_fork xs y h none =
    listed_with xs xs y h refl refl
    (λ k s o.
    let other = no_parent y.is_fork y.parent k none in
    let nothing = append-nil s.contents.items in
    (s, o, refl, cc)) (λ p f. cc)

-- a content of stream n, which lists it
pub listed_with_content : (xs : List Stream) (n : ℕ) (x z y : Stream) → AreListed xs
    → x ≡ get_or xs n x → n < length xs → (stream_of z).kind ≡ (stream_of x).kind
    → z.parent ≡ x.parent → z.contents.items ≡ x.contents.items ++ length xs ∷ []
    → y.parent ≡ Some n → y.contents.items ≡ [] → AreListed (set xs n z ++ y ∷ [])
listed_with_content xs n x z y h e l kind parent list of_n =
    listed_with xs (set xs n z) y h (length-set xs n z) (same_kinds xs n x z e kind)
    (λ k s o. elim (in_set xs n z k s o) [
      | inl q ↦
          let own : is_content_of k (stream_of y).kind ≡ true = rw of_n (eq-eqb n k (sym q.0)) in
          let there = slice_get_read xs (length xs) n x refl l e in
          (x, cc, cc, cc)
      | inr r ↦
          let other : is_content_of k (stream_of y).kind ≡ false =
          rw of_n (ne_eqb n k (λ q. r.0 (sym q))) in
          let nothing = append-nil s.contents.items in
          (s, r.1, refl, cc)
    ]) (λ p f. let is : n ≡ p = cc in omega arith)

-- parents have lower numbers
parent_of : (f : Bool) (o : Option ℕ) (p : ℕ) → stream_kind f o ≡ content_of p → o ≡ Some p
parent_of f o p e = grind arith

pub above_listed : (xs : List Stream) → AreListed xs → Above 0 (state_of_list xs)
above_listed xs h m p e =
    elim (slice_get_cases xs m).1 [
      | inl q ↦
          let x = q.0 in
          let kind = ap (λ s. s.kind) (stream_there xs m x (sym q.3) q.1) in
          let below = (h m x q.2).parent p (parent_of x.is_fork x.parent p (sym kind ∙ e)) in
          omega (arith, below)
      | inr q ↦
          let none = ap (λ s. s.kind) (get_or_past (state_of_list xs) m no_stream
          (omega (arith, q.0, length-state xs))) in
          absurd (cc)
    ]

-- a fork, if there is memory for it
pub pushed_not_empty : (b : Bool) (xs ys : List Stream) (x : Stream) → ys ≡ cond b (xs ++ x ∷ []) xs
    → 0 < length xs → 0 < length ys
pushed_not_empty a0 a1 a2 a3 a4 a5 = grind (arith, length-append)

pub pushed_listed : (b : Bool) (xs ys : List Stream) (x : Stream) → ys ≡ cond b (xs ++ x ∷ []) xs
    → x.parent ≡ None → x.contents.items ≡ [] → AreListed xs → AreListed ys
pushed_listed a0 a1 a2 a3 a4 a5 a6 a7 = grind (arith, listed_with_fork)
