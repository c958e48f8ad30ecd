-- How `retain` goes over a list.
use Rattle.std.proofs.Common.{◌≡◌, ℕ, ◌+◌, ◌-◌, ◌<◌, ◌≤◌, Bool, true, false, cond, List, [], ◌∷◌}
use Rattle.std.proofs.Common.{◌++◌, map, take, drop, length, get_or, set, refl, sym, ap, subst, ◌∙◌}
use Rattle.std.proofs.Common.{arith, drop-set-lt, length-set, inl, inr, add-zero, append-nil}
use Rattle.std.proofs.Common.{append_assoc, length-append, eq-or-lt_of_le, Option, None, Some}
use Rattle.std.proofs.lemmas.List.{take_more, take_more_set, take-set-le, get_or-set_same}
use Rattle.std.proofs.lemmas.List.{map-append, take_all, take-append-le, get_or-drop, length-map}
use Rattle.std.proofs.lemmas.List.{take-append-drop}
use Rattle.std.proofs.lemmas.Grind.{drop_more_same}
use Rattle.std.specs.List.{SwappedAt}
use Rattle.std.specs.Option.{option_to_list}
use Rattle.std.specs.Global.{Box}
use Rattle.syn_punctuated.specs.Private.Boxes.{boxed_values}
use Rattle.syn_punctuated.specs.Lists.{values_of, separators_of}
use Rattle.syn_punctuated.specs.declared.punctuated.Punctuated.{Punctuated}
use Rattle.syn_punctuated.specs.Retained.{AtEach, RunsOver, kept_pairs, kept_values}
use Rattle.syn_punctuated.specs.Retained.{kept_separators, RetainsPairs, Retains}

module _ {S X : Type 0} (R : S → X → Bool → S → X → Type 0) where
  runs_more : (s : S) (xs : List X) (zs : List (Bool × X)) (t : S) (x : X) (b : Bool) (u : S)
      (y : X) → RunsOver R s xs zs t → R t x b u y
      → RunsOver R s (xs ++ x ∷ []) (zs ++ (b, y) ∷ []) u
  runs_more s [] [] t x b u y same step = (u, subst (λ (r : S). R r x b u y) (sym same) step, refl)
  runs_more s [] (z ∷ zs) t x b u y h step = absurd h
  runs_more s (w ∷ xs) [] t x b u y h step = absurd h
  runs_more s (w ∷ xs) (z ∷ zs) t x b u y h step =
      (h.0, h.1, runs_more h.0 xs zs t x b u y h.2 step)

  pub runs_long : (s : S) (xs : List X) (zs : List (Bool × X)) (t : S) → RunsOver R s xs zs t
      → length zs ≡ length xs
  runs_long s [] [] t h = refl
  runs_long s [] (z ∷ zs) t h = absurd h
  runs_long s (w ∷ xs) [] t h = absurd h
  runs_long s (w ∷ xs) (z ∷ zs) t h = omega (arith, runs_long h.0 xs zs t h.2)

kept_more : {X Y : Type 0} (zs : List (Bool × X)) (ps : List (X × Y)) (b : Bool) (y : X) (p : X
    × Y) → length zs ≡ length ps
    → kept_pairs (zs ++ (b, y) ∷ []) (ps ++ p ∷ []) ≡ kept_pairs zs ps ++ cond b ((y, p.1) ∷ []) []
kept_more [] [] true y p e = refl
kept_more [] [] false y p e = refl
kept_more [] (q ∷ ps) b y p e = absurd (omega arith)
kept_more (z ∷ zs) [] b y p e = absurd (omega arith)
kept_more ((true, w) ∷ zs) (q ∷ ps) b y p e = grind (arith, kept_more zs ps b y p (omega arith))
kept_more ((false, w) ∷ zs) (q ∷ ps) b y p e = kept_more zs ps b y p (omega arith)

-- a value that is kept moves to the end of those kept before
kept_moves : {A : Type 0} (xs : List A) (k i : ℕ) (y w : A) → k ≤ i → i < length xs
    → (k ≡ i → w ≡ y) → take (k + 1) (set (set (set xs i y) k y) i w) ≡ take k xs ++ y ∷ []
kept_moves xs k i y w le lt same =
    let long = length-set xs i y in
    elim (eq-or-lt_of_le le) [
      | inl e ↦ let f : w ≡ y = same e in
          rw (f, e) (take_more_set (set (set xs i y) i y) i y (rw (length-set, length-set) lt)
          ∙ ap (λ zs. zs ++ y ∷ []) (take-set-le i (set xs i y) i y (omega arith)
          ∙ take-set-le i xs i y (omega arith)))
      | inr h ↦ take-set-le (k + 1) (set (set xs i y) k y) i w (omega arith)
          ∙ take_more_set (set xs i y) k y (omega arith)
          ∙ ap (λ zs. zs ++ y ∷ []) (take-set-le k xs i y le)
    ]

same_item : {A : Type 0} (xs ys : List A) (i : ℕ) (d : A) → drop i xs ≡ drop i ys
    → get_or xs i d ≡ get_or ys i d
same_item xs ys i d e =
    let p = rw add-zero at (get_or-drop i xs 0 d) in
    let q = rw add-zero at (get_or-drop i ys 0 d) in
    sym p ∙ ap (λ zs. get_or zs 0 d) e ∙ q

module _ {S X Y : Type 0} (R : S → X → Bool → S → X → Type 0) (s : S) (old : List (X × Y)) where
  -- R went over the first i pairs of old, to t, and the kept ones stand in front of now
  pub record Going (i k : ℕ) (now : List (X × Y)) (t : S) : Type 0 where
    pub le : k ≤ i
    pub long : length now ≡ length old
    pub rest : drop i now ≡ drop i old
    pub run : List (Bool × X)
    pub runs : RunsOver R s (map (λ p. p.0) (take i old)) run t
    pub front : take k now ≡ kept_pairs run (take i old)

  -- what holds at each value holds at the next pair's
  pub next_pair : (holds : S → X → Type 0) → AtEach R holds s (map (λ p. p.0) old)
      → (i k : ℕ) (now : List (X × Y)) (t : S) (p : X × Y) → i < length now → Going i k now t
      → p ≡ get_or now i p → holds t p.0
  next_pair holds each i k now t p lt h is =
      let item : get_or old i p ≡ p = sym (same_item now old i p h.rest) ∙ sym is in
      let small : i < length old = omega (arith, h.long) in
      let front : take (i + 1) old ≡ take i old ++ p ∷ [] =
      take_more old i p small ∙ ap (λ q. take i old ++ q ∷ []) item in
      let whole : old ≡ (take i old ++ p ∷ []) ++ drop (i + 1) old =
      sym (take-append-drop (i + 1) old) ∙ ap (λ q. q ++ drop (i + 1) old) front in
      each (map (λ p. p.0) (take i old)) p.0 (map (λ p. p.0) (drop (i + 1) old)) h.run t
      (ap (map (λ p. p.0)) whole ∙ map-append (λ p. p.0) (take i old ++ p ∷ []) (drop (i + 1) old)
      ∙ ap (λ q. q ++ map (λ p. p.0) (drop (i + 1) old))
      (map-append (λ p. p.0) (take i old) (p ∷ []))
      ∙ append_assoc (map (λ p. p.0) (take i old)) (p.0 ∷ []) (map (λ p. p.0) (drop (i + 1) old)))
      h.runs

  -- one more pair was shown to R
  one_more_shown : (i k : ℕ) (now : List (X × Y)) (t : S) (p : X × Y) (b : Bool) (u : S) (y : X)
      → i < length now → (h : Going i k now t) → p ≡ get_or now i p → R t p.0 b u y
      → RunsOver R s (map (λ p. p.0) (take (i + 1) old)) (h.run ++ (b, y) ∷ []) u
      × (kept_pairs (h.run ++ (b, y) ∷ []) (take (i + 1) old)
      ≡ kept_pairs h.run (take i old) ++ cond b ((y, p.1) ∷ []) [])
  one_more_shown i k now t p b u y lt h is step =
      let item : get_or old i p ≡ p = sym (same_item now old i p h.rest) ∙ sym is in
      let front : take (i + 1) old ≡ take i old ++ p ∷ [] =
      take_more old i p (omega (arith, h.long)) ∙ ap (λ q. take i old ++ q ∷ []) item in
      let long = runs_long R s _ h.run t h.runs in
      rw (front, map-append) (
        runs_more R s (map (λ p. p.0) (take i old)) h.run t p.0 b u y h.runs
            step,
        kept_more h.run (take i old) b y p (long ∙ length-map (take i old) (λ p. p.0)),
      )

  going_drops : (i k : ℕ) (now : List (X × Y)) (t : S) (p : X × Y) (u : S) (y : X)
      → i < length now → Going i k now t → p ≡ get_or now i p → R t p.0 false u y
      → Going (i + 1) k (set now i (y, p.1)) u
  going_drops i k now t p u y lt h is step =
      let more = one_more_shown i k now t p false u y lt h is step in
      record {
        le = omega (arith, h.le);
        long = length-set now i (y, p.1) ∙ h.long;
        rest = drop-set-lt (i + 1) now i (y, p.1) (omega arith) ∙ drop_more_same now old i h.rest;
        run = h.run ++ (false, y) ∷ [];
        runs = more.0;
        front = take-set-le k now i (y, p.1) h.le ∙ h.front ∙ sym (more.1 ∙ append-nil _);
      }

  going_keeps : (i k : ℕ) (now : List (X × Y)) (t : S) (p : X × Y) (u : S) (y : X) (w : X × Y)
      → i < length now → Going i k now t → p ≡ get_or now i p → R t p.0 true u y
      → (k ≡ i → w ≡ (y, p.1))
      → Going (i + 1) (k + 1) (set (set (set now i (y, p.1)) k (y, p.1)) i w) u
  going_keeps i k now t p u y w lt h is step same =
      let more = one_more_shown i k now t p true u y lt h is step in
      record {
        le = omega (arith, h.le);
        long = length-set _ i w ∙ length-set _ k (y, p.1) ∙ length-set now i (y, p.1) ∙ h.long;
        rest =
            drop-set-lt (i + 1) _ i w (omega arith)
            ∙ drop-set-lt (i + 1) _ k (y, p.1) (omega (arith, h.le))
            ∙ drop-set-lt (i + 1) now i (y, p.1) (omega arith) ∙ drop_more_same now old i h.rest;
        run = h.run ++ (true, y) ∷ [];
        runs = more.0;
        front =
            kept_moves now k i (y, p.1) w h.le lt same ∙ ap (λ zs. zs ++ (y, p.1) ∷ []) h.front
            ∙ sym more.1;
      }

  pub going_swaps : (i k : ℕ) (now : List (X × Y)) (t : S) (p : X × Y) (u : S) (q : X
      × Y) (new : List (X × Y)) → i < length now → Going i k now t → p ≡ get_or now i p → q.1 ≡ p.1
      → R t p.0 true u q.0 → SwappedAt (set now i q) new k i → Going (i + 1) (k + 1) new u
  going_swaps i k now t p u q new lt h is after step swapped =
      let e : q ≡ (q.0, p.1) = λ j. (q.0, after j) in
      let w = get_or (set now i q) k q in
      let here : get_or (set now i q) i q ≡ q = get_or-set_same now i q q lt in
      let same : k ≡ i → w ≡ (q.0, p.1) = λ at. ap (λ j. get_or (set now i q) j q) at ∙ here ∙ e in
      let kept : Going (i + 1) (k + 1) (set (set (set now i q) k q) i w) u =
      subst (λ (r : X × Y). Going (i + 1) (k + 1) (set (set (set now i r) k r) i w) u) (sym e)
      (going_keeps i k now t p u q.0 w lt h is step same) in
      subst (λ (zs : List (X × Y)). Going (i + 1) (k + 1) zs u)
      (sym (swapped.3 q ∙ ap (λ r. set (set (set now i q) k r) i w) here)) kept

  pub going_skips : (i k : ℕ) (now : List (X × Y)) (t : S) (p : X × Y) (u : S) (q : X × Y)
      → i < length now → Going i k now t → p ≡ get_or now i p → q.1 ≡ p.1 → R t p.0 false u q.0
      → Going (i + 1) k (set now i q) u
  going_skips i k now t p u q lt h is after step =
      let e : q ≡ (q.0, p.1) = λ j. (q.0, after j) in
      subst (λ (r : X × Y). Going (i + 1) k (set now i r) u) (sym e)
      (going_drops i k now t p u q.0 lt h is step)

-- ---- from the pairs to the whole list

module _ {S X : Type 0} (R : S → X → Bool → S → X → Type 0) (holds : S → X → Type 0) (s : S) where
  pub each_front : (xs ys : List X) → AtEach R holds s (xs ++ ys) → AtEach R holds s xs
  each_front xs ys each before x after run t e runs =
      each before x (after ++ ys) run t (ap (λ q. q ++ ys) e
      ∙ append_assoc before (x ∷ after) ys) runs

  pub each_last : (xs : List X) (x : X) (run : List (Bool × X)) (t : S)
      → AtEach R holds s (xs ++ x ∷ []) → RunsOver R s xs run t → holds t x
  each_last xs x run t each runs = each xs x [] run t refl runs

kept_first : {X Y : Type 0} (run : List (Bool × X)) (pairs : List (X × Y))
    → length run ≡ length pairs → map (λ p. p.0) (kept_pairs run pairs) ≡ kept_values run
kept_first [] [] e = refl
kept_first [] (p ∷ ps) e = absurd (omega arith)
kept_first (z ∷ zs) [] e = absurd (omega arith)
kept_first ((true, w) ∷ zs) (p ∷ ps) e = ap (λ rs. w ∷ rs) (kept_first zs ps (omega arith))
kept_first ((false, w) ∷ zs) (p ∷ ps) e = kept_first zs ps (omega arith)

kept_second : {X Y : Type 0} (run : List (Bool × X)) (pairs : List (X × Y))
    → map (λ p. p.1) (kept_pairs run pairs) ≡ kept_separators run (map (λ p. p.1) pairs)
kept_second [] ps = refl
kept_second (z ∷ zs) [] = refl
kept_second ((true, w) ∷ zs) (p ∷ ps) = ap (λ rs. p.1 ∷ rs) (kept_second zs ps)
kept_second ((false, w) ∷ zs) (p ∷ ps) = kept_second zs ps

values_more : {X : Type 0} (run : List (Bool × X)) (b : Bool) (y : X)
    → kept_values (run ++ (b, y) ∷ []) ≡ kept_values run ++ cond b (y ∷ []) []
values_more [] true y = refl
values_more [] false y = refl
values_more ((true, w) ∷ zs) b y = ap (λ rs. w ∷ rs) (values_more zs b y)
values_more ((false, w) ∷ zs) b y = values_more zs b y

pub separators_more : {X Y : Type 0} (run : List (Bool × X)) (b : Bool) (y : X) (ys : List Y)
    → length run ≡ length ys → kept_separators (run ++ (b, y) ∷ []) ys ≡ kept_separators run ys
separators_more [] b y [] e = refl
separators_more [] b y (q ∷ ys) e = absurd (omega arith)
separators_more (z ∷ zs) b y [] e = refl
separators_more ((true, w) ∷ zs) b y (q ∷ ys) e =
    ap (λ rs. q ∷ rs) (separators_more zs b y ys (omega arith))
separators_more ((false, w) ∷ zs) b y (q ∷ ys) e = separators_more zs b y ys (omega arith)

bare_differs : {X Y : Type 0} (list : Punctuated X Y) → list.last ≡ None
    → length (values_of list) ≡ length (separators_of list) + 1 → ⊥
bare_differs list is e =
    let f : length (map (λ p. p.0) list.inner.items ++ [])
    ≡ length (map (λ p. p.1) list.inner.items) + 1 =
    ap (λ o. length (map (λ p. p.0) list.inner.items ++ boxed_values o)) (sym is) ∙ e in
    omega (
      arith,
      f,
      length-append (map (λ p. p.0) list.inner.items) [],
      length-map list.inner.items (λ p. p.0),
      length-map list.inner.items (λ p. p.1),
    )

module _ {S X Y : Type 0} (R : S → X → Bool → S → X
    → Type 0) (s : S) (old new : Punctuated X Y) (t : S)
    (kept : RetainsPairs R s old.inner.items new.inner.items t) where
  pub retains_trailing : old.last ≡ None → new.last ≡ None → Retains R s old new
  retains_trailing was is =
      let run = kept.0 in
      let long : length run ≡ length old.inner.items =
      runs_long R s _ run t kept.1 ∙ length-map old.inner.items (λ p. p.0) in
      record {
        run = run;
        ends = t;
        runs = rw (was, append-nil) kept.1;
        values = rw (is, append-nil, kept.2) (kept_first run old.inner.items long);
        trailing = λ _. ap (map (λ p. p.1)) kept.2 ∙ kept_second run old.inner.items;
        bare = λ e. absurd (bare_differs old was e);
      }

bare_is_not_trailing : {X Y : Type 0} (list : Punctuated X Y) (v : Box X) → list.last ≡ Some v
    → length (values_of list) ≡ length (separators_of list) → ⊥
bare_is_not_trailing list v is e =
    let f : length (map (λ p. p.0) list.inner.items ++ v.value ∷ [])
    ≡ length (map (λ p. p.1) list.inner.items) =
    ap (λ o. length (map (λ p. p.0) list.inner.items ++ boxed_values o)) (sym is) ∙ e in
    omega (
      arith,
      f,
      length-append (map (λ p. p.0) list.inner.items) (v.value ∷ []),
      length-map list.inner.items (λ p. p.0),
      length-map list.inner.items (λ p. p.1),
    )

popped_second : {X Y : Type 0} (pairs now : List (X × Y)) (r : Option (X × Y))
    → pairs ≡ now ++ option_to_list r → (r ≡ None → length now ≡ 0)
    → map (λ p. p.1) now ≡ take (length pairs - 1) (map (λ p. p.1) pairs)
popped_second pairs [] None e none = rw e refl
popped_second pairs (q ∷ now) None e none = let f = none refl in absurd (omega arith)
popped_second pairs now (Some p) e none =
    let n = length (now ++ p ∷ []) - 1 in
    let long : length now ≡ n = omega (arith, length-append now (p ∷ [])) in
    let seconds = length-map now (λ q. q.1) in
    rw (e, map-append) (sym (take-append-le n (map (λ q. q.1) now) (p.1 ∷ []) (omega arith)
    ∙ take_all n (map (λ q. q.1) now) (omega arith)))

module _ {S X Y : Type 0} (R : S → X → Bool → S → X
    → Type 0) (s : S) (old new : Punctuated X Y) (v : Box X) (was : old.last ≡ Some v) (t : S)
    (pairs : List (X × Y)) (kept : RetainsPairs R s old.inner.items pairs t) (u : S) (y : X) where
  abbrev run_of : List (Bool × X)
  run_of = kept.0

  run_long : length run_of ≡ length old.inner.items
  run_long = runs_long R s _ run_of t kept.1 ∙ length-map old.inner.items (λ p. p.0)

  first_of_kept : map (λ p. p.0) pairs ≡ kept_values run_of
  first_of_kept = ap (map (λ p. p.0)) kept.2 ∙ kept_first run_of old.inner.items run_long

  kept_count : length (kept_values run_of) ≡ length pairs
  kept_count = sym (ap length first_of_kept) ∙ length-map pairs (λ p. p.0)

  all_runs : (b : Bool) → R t v.value b u y → RunsOver R s (values_of old) (run_of ++ (b, y) ∷ []) u
  all_runs b step = grind (arith, runs_more)

  all_separators : (b : Bool)
      → kept_separators (run_of ++ (b, y) ∷ []) (separators_of old) ≡ map (λ p. p.1) pairs
  all_separators b = grind (arith, separators_more, run_long, length-map, kept_second)

  pub retains_last : R t v.value true u y → (w : Box X) → w.value ≡ y → new.last ≡ Some w
      → new.inner.items ≡ pairs → Retains R s old new
  retains_last step w holds is same =
      let n = length (kept_values (run_of ++ (true, y) ∷ [])) - 1 in
      let counted : length pairs ≡ n =
      omega (
        arith,
        ap length (values_more run_of true y),
        length-append (kept_values run_of) (y ∷ []),
        kept_count,
      ) in
      record {
        run = run_of ++ (true, y) ∷ [];
        ends = u;
        runs = all_runs true step;
        values =
            (λ i. map (λ p. p.0) (same i) ++ boxed_values (is i))
            ∙ (λ i. first_of_kept i ++ holds i ∷ []) ∙ sym (values_more run_of true y);
        trailing = λ e. absurd (bare_is_not_trailing old v was e);
        bare =
            λ _. ap (map (λ p. p.1)) same
            ∙ sym (take_all n (map (λ p. p.1) pairs) (omega (arith, length-map pairs (λ p. p.1))))
            ∙ ap (take n) (sym (all_separators true));
      }

  pub retains_refused : R t v.value false u y → (r : Option (X × Y))
      → pairs ≡ new.inner.items ++ option_to_list r → (r ≡ None → length new.inner.items ≡ 0)
      → boxed_values new.last ≡ map (λ p. p.0) (option_to_list r) → Retains R s old new
  retains_refused step r popped none is =
      let n = length (kept_values (run_of ++ (false, y) ∷ [])) - 1 in
      let values : kept_values (run_of ++ (false, y) ∷ []) ≡ kept_values run_of =
      values_more run_of false y ∙ append-nil _ in
      let counted : length pairs - 1 ≡ n = ap (λ k. k - 1) (sym (ap length values ∙ kept_count)) in
      record {
        run = run_of ++ (false, y) ∷ [];
        ends = u;
        runs = all_runs false step;
        values =
            ap (λ zs. map (λ p. p.0) new.inner.items ++ zs) is
            ∙ sym (map-append (λ p. p.0) new.inner.items (option_to_list r))
            ∙ sym (ap (map (λ p. p.0)) popped) ∙ first_of_kept ∙ sym values;
        trailing = λ e. absurd (bare_is_not_trailing old v was e);
        bare =
            λ _. popped_second pairs new.inner.items r popped none
            ∙ (λ i. take (counted i) (sym (all_separators false) i));
      }
