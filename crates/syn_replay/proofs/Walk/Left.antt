-- What is left inside a stream.
use Rattle.std.proofs.Common.{rules, ◌≡◌, ◌≢◌, ◌∙◌, sym, ap, refl, ℕ, zero, suc, ◌+◌, ◌≤◌, ◌<◌, inl}
use Rattle.std.proofs.Common.{inr, Bool, true, false, List, [], ◌∷◌, drop, get_or, length, Option}
use Rattle.std.proofs.Common.{None, arith}
use Rattle.std.proofs.lemmas.Bool.{and_right, cases_lt}
use Rattle.std.proofs.lemmas.List.{drop_all, drop_more}
use Rattle.std.specs.Option.{option_or}
use Rattle.std.specs.Prelude.{cond}
use Rattle.tok_buffer.specs.Ahead.{Leftover, leftover}
use Rattle.syn_parse.specs.State as parse
use Rattle.syn_replay.specs.Session.Links.{contents}
use Rattle.syn_replay.specs.Session.State.{AllStreams, content_of, is_content_of, is_open_at}
use Rattle.syn_replay.specs.Session.State.{kind_at, left_from, left_inside, parse_state, gathered}
use Rattle.syn_replay.specs.Session.State.{reported, no_stream, stream_at}
use Rattle.syn_replay.proofs.Walk.Contents.{content_is, contents_at, contents_past, contents_within}
use Rattle.syn_replay.proofs.Walk.Contents.{not_content}
use Rattle.syn_replay.proofs.Walk.Ends.{Above}

pub none_of : (a b : Option Leftover) → option_or a b ≡ None → (a ≡ None) × (b ≡ None)
none_of a b h = grind arith

pub none_either : (a b : Option Leftover) → a ≡ None → b ≡ None → option_or a b ≡ None
none_either a b e f = grind arith

-- Nothing is left inside a stream of a set that holds the open contents of its streams, if none of
-- these records or leaves anything.
pub left_none : (P : ℕ → Type 0) (k n : ℕ) (later : AllStreams)
    → ((i m p : ℕ) → i ≡ n + m → is_open_at later m ≡ true → kind_at later m ≡ content_of p → P p
    → P i × ((stream_at later m).recorded ≡ None) × (leftover (stream_at later m).place ≡ None))
    → P k → left_from k n later ≡ None
left_none P k n [] h x = refl
left_none P k n (s ∷ later) h x =
    let more = λ (i m p : ℕ) (q : i ≡ n + 1 + m). h i (suc m) p (omega arith) in
    let beside = left_none P k (n + 1) later more x in
    let here : s.is_open ≡ true → is_content_of k s.kind ≡ true → (s.recorded ≡ None)
    × (left_from n (n + 1) later ≡ None) × (leftover s.place ≡ None) =
    λ o c.
    let (mine, recorded, none) = h n 0 k (omega arith) o (content_is s.kind k c) x in
    (recorded, left_none P n (n + 1) later more mine, none) in
    grind arith

-- if nothing is left inside a stream, its open contents record and leave nothing
left_holds : (p n : ℕ) (later : AllStreams) → left_from p n later ≡ None → (i m : ℕ) → i ≡ n + m
    → is_open_at later m ≡ true → kind_at later m ≡ content_of p
    → ((stream_at later m).recorded ≡ None)
    × (left_from i (i + 1) (drop (suc m) later) ≡ None)
    × (leftover (stream_at later m).place ≡ None)
left_holds p n [] e i m q o f = cc
left_holds p n (s ∷ later) e i zero q o f =
    let same : i ≡ n = omega arith in rw same (search rules)
left_holds p n (s ∷ later) e i (suc m) q o f =
    left_holds p (n + 1) later (none_of _ _ e).1 i m (omega arith) o f

-- streams that are no contents are passed over
left_skips : (k n i b : ℕ) (st : AllStreams) → i ≡ n + b
    → ((m : ℕ) → m < b → kind_at st m ≢ content_of k)
    → left_from k n st ≡ left_from k i (drop b st)
left_skips k n i zero st q h =
    let same : n ≡ i = omega arith in ap (λ z. left_from k z st) same
left_skips k n i (suc b) [] q h = refl
left_skips k n i (suc b) (s ∷ st) q h =
    let out = and_right s.is_open _ (not_content s.kind k (h 0 (omega arith))) in
    let more = left_skips k (n + 1) i b st (omega arith) (λ m l. h (suc m) (omega arith)) in
    cc

module _ (st : AllStreams) (above : Above 0 st) where
  -- no stream before its contents counts
  pub left_beyond : (k n : ℕ) → n ≤ k + 1 → left_inside st k ≡ left_from k n (drop n st)
  left_beyond k n h = grind (arith, left_skips)

  left_after : (k : ℕ) → left_inside st k ≡ left_from k (k + 1) (drop (k + 1) st)
  left_after k = left_beyond k (k + 1) (omega arith)

  pub left_emptied : (p j : ℕ) → left_inside st p ≡ None → is_open_at st j ≡ true
      → kind_at st j ≡ content_of p → reported st j ≡ None
  left_emptied p j e o f = grind (arith, left_holds, left_after, none_either)

  -- what the contents of a list report
  abbrev pub left_among : List ℕ → Option Leftover
  left_among [] = None
  left_among (k ∷ ks) =
      option_or (cond (is_open_at st k) (reported st k) None) (left_among ks)

  left_listed : (room k n : ℕ) → length st ≤ n + room
      → left_from k n (drop n st) ≡ left_among (contents k n st)
  left_listed zero k n h =
      ap (left_from k n) (drop_all n st (omega arith))
      ∙ ap left_among (sym (contents_past k n st (omega arith)))
  left_listed (suc room) k n h =
      elim (cases_lt n (length st)) [
        | inr l ↦
            ap (left_from k n) (drop_all n st l)
            ∙ ap left_among (sym (contents_past k n st l))
        | inl l ↦
            let first = drop_more st n no_stream l in
            let one = contents_at k n st l in
            let others = left_listed room k (n + 1) (omega arith) in
            let inside = left_after n in
            grind arith
      ]

  -- what is left inside a stream is left in its contents
  pub left_in_contents : (k : ℕ) → left_inside st k ≡ left_among (contents k (k + 1) st)
  left_in_contents k = left_after k ∙ left_listed (length st) k (k + 1) (omega arith)

pub assoc_or : (a b c : Option Leftover) → option_or (option_or a b) c ≡ option_or a (option_or b c)
assoc_or a b c = grind arith

pub or_none : (a : Option Leftover) → option_or a None ≡ a
or_none a = grind arith

same_state : (t u : parse.State) → t.place ≡ u.place → t.scope_span ≡ u.scope_span
    → t.noted ≡ u.noted → t ≡ u
same_state t u a b c = search rules

-- Stream n is gathered, one content after the other: those from the index on are left.
module _ (st : AllStreams) (above : Above 0 st) (n : ℕ) where
  abbrev pub listed : List ℕ
  listed = contents n (n + 1) st

  pub record Gathering (t : parse.State) (index : ℕ) : Type 0 where
    pub place : t.place ≡ (stream_at st n).place
    pub scope : t.scope_span ≡ (stream_at st n).scope_span
    pub rest : option_or t.noted (left_among st above (drop index listed))
        ≡ (gathered st n).recorded

  pub gathers_first : (t : parse.State) → t ≡ parse_state (stream_at st n) → Gathering t 0
  gathers_first t e =
      let left = left_in_contents st above n in
      rw e (record { place = refl; scope = refl; rest = cc })

  pub gathers_within : (index i : ℕ) → index < length listed → i ≡ get_or listed index i
      → (n < i) × (i < length st)
  gathers_within = contents_within n st

  module _ (t : parse.State) (index : ℕ) (g : Gathering t index) where
    pub gathers_last : length listed ≤ index → t ≡ parse_state (gathered st n)
    gathers_last h = grind (arith, drop_all, same_state, or_none)

    module _ (i : ℕ) (h : index < length listed) (e : i ≡ get_or listed index i) where
      -- one more content is closed if it is open, and else passed over
      left_here : (b : Bool) → is_open_at st i ≡ b
          → option_or t.noted (option_or (cond b (reported st i) None)
          (left_among st above (drop (index + 1) listed))) ≡ (gathered st n).recorded
      left_here b o = let more = drop_more listed index i h in let left = g.rest in cc

      pub gathers_open : (content u : parse.State) → is_open_at st i ≡ true
          → content ≡ parse_state (gathered st i) → u ≡ parse.closed content t
          → Gathering u (index + 1)
      gathers_open content u o c q =
          rw (q, c) (record {
            place = g.place;
            scope = g.scope;
            rest = assoc_or t.noted (reported st i) _ ∙ left_here true o;
          })

      pub gathers_spent : is_open_at st i ≡ false → Gathering t (index + 1)
      gathers_spent o = search (rules, left_here)
