-- The places at which a test holds: each passes, and the count of those before it is its rank.
use Rattle.std.proofs.Common.{◌≡◌, ◌∙◌, ℕ, zero, suc, ◌+◌, ◌-◌, ◌<◌, ◌≤◌, List, ◌∷◌, length, take}
use Rattle.std.proofs.Common.{Bool, true, false, count_by, get_or, ltb, ◌⊎◌, inl, inr}
use Rattle.std.proofs.Common.{refl, sym, ap, arith}
use Rattle.std.proofs.lemmas.Bool.{cases_lt, cond_both, false≢true, ltb-true, ltb-false}
use Rattle.std.proofs.lemmas.List.{get_or_past, get_or_read, take-take}
use Rattle.std.proofs.lemmas.List.Sorted.{IsNonDecreasingBy-from_default}
use Rattle.std.proofs.lemmas.List.Sums.{count_by_more_no, count_by_more_yes, sum_by-take-le}
use Rattle.std.specs.List.Sorted.{IsNonDecreasing, IsPartitionPoint}
use Rattle.std.specs.List.{AllWithin}
use Rattle.memchr.proofs.lemmas.CallerLemmas.{length-places}
use Rattle.memchr.specs.Find.{Nowhere, Passes, is_byte, places, places_from}
use Rattle.tok_carets.specs.Lines.{IsLineStart, line_feeds}
use Rattle.tok_carets.proofs.Feeds.{one}

module _ (test : ℕ → Bool) (text : List ℕ) where
  -- how many pass before a place
  abbrev pub rank : ℕ → ℕ
  rank at = count_by test (take at text)

  -- more of a text has no fewer
  pub rank_le : (i j : ℕ) → i ≤ j → rank i ≤ rank j
  rank_le i j le =
      let inside = take-take i j text le in
      let fewer = sum_by-take-le (one test) (take j text) i in
      omega (arith, ap (count_by test) inside)

  -- a place that passes, with the rank r
  pub record Ranked (at r : ℕ) : Type 0 where
    pub high : at < length text
    pub passes : Passes test text at
    pub is : rank at ≡ r

  -- a list of places whose ranks count from r on
  abbrev AreRanked : (r : ℕ) → List ℕ → Type 0
  AreRanked r places = (k : ℕ) → k < length places → Ranked (get_or places k 0) (r + k)

  ranked_from : (i n : ℕ) → i + n ≡ length text → AreRanked (rank i) (places_from test text i n)
  unfolding places_from
  ranked_from i zero all = λ k low. absurd (omega (arith, low))
  ranked_from i (suc n) all =
      let later = places_from test text (i + 1) n in
      let after = ranked_from (i + 1) n (omega arith) in
      cond_both (test (get_or text i 0)) (i ∷ later) later (AreRanked (rank i))
      (λ holds. first holds (count_by_more_yes test text i 0 (omega arith) holds) later after)
      (λ fails. rw (← count_by_more_no test text i 0 (omega arith) fails) after)
    where
      first : Passes test text i → rank (i + 1) ≡ rank i + 1 → (later : List ℕ)
          → AreRanked (rank (i + 1)) later → AreRanked (rank i) (i ∷ later)
      first holds one later after zero low =
          record { high = omega arith; passes = holds; is = omega arith }
      first holds one later after (suc k) low =
          let next = after k (omega (arith, low)) in
          record { high = next.high; passes = next.passes; is = omega arith }

  pub ranked : (k : ℕ) → k < length (places test text) → Ranked (get_or (places test text) k 0) k
  ranked k low =
      let found = ranked_from 0 (length text - 0) (omega arith) k low in
      record { high = found.high; passes = found.passes; is = omega arith }

  -- a place that passes has a lower rank than each place after it
  pub rank_below : (i j : ℕ) → i < length text → Passes test text i → i < j → rank i < rank j
  rank_below i j high holds below =
      let one = count_by_more_yes test text i 0 high holds in
      omega (arith, rank_le (i + 1) j (omega arith))

  -- places between which none passes
  pub none_between : (i j : ℕ) → rank j ≡ rank i → (test 0 ≡ true → ⊥)
      → Nowhere (Passes test text) i j
  none_between i j same end k low high holds = elim (cases_lt k (length text)) [
    | inl within ↦
        let below = rank_below k j within holds high in
        absurd (omega (arith, rank_le i k low))
    | inr past ↦ absurd (end (ap test (sym (get_or_past text k 0 past)) ∙ holds))
  ]

  pub ascending : IsNonDecreasing (places test text)
  ascending =
      let all = places test text in
      IsNonDecreasingBy-from_default (λ x. x) all 0
      (λ i j le high. elim (cases_lt (get_or all j 0) (get_or all i 0)) [
        | inl turned ↦
            let one = ranked i (omega arith) in
            let other = ranked j high in
            let below = rank_below _ _ other.high other.passes turned in
            absurd (omega arith)
        | inr in_order ↦ in_order
      ])

  -- where places stop to be before one is how many are before it
  pub point_is : (at i : ℕ) → i ≤ length (places test text)
      → IsPartitionPoint (λ x. ltb x at ≡ true) (λ x. ltb x at ≡ false) (places test text) i
      → i ≡ rank at
  point_is at i bound point =
      omega (arith, no_fewer i bound point.0, no_more (cases_lt i (length (places test text))))
    where
      no_fewer : (i : ℕ) → i ≤ length (places test text)
          → AllWithin (λ x. ltb x at ≡ true) (places test text) 0 i → i ≤ rank at
      no_fewer zero le before = omega arith
      no_fewer (suc i) le before =
          let last = ranked i (omega arith) in
          let low = ltb-true _ at (before i 0 (omega arith) (omega arith)) in
          let below = rank_below _ at last.high last.passes low in
          omega arith

      no_more : (i < length (places test text)) ⊎ (length (places test text) ≤ i) → rank at ≤ i
      no_more (inl low) =
          let next = ranked i low in
          let after = ltb-false _ at (point.1 i 0 (omega arith) low) in
          omega (arith, rank_le at _ after)
      no_more (inr past) =
          let fewer = sum_by-take-le (one test) text at in
          omega (arith, length-places test text)

-- the line of a byte starts after the last line feed before it
pub start_is : (text feeds : List ℕ) (at n feed : ℕ) → feeds ≡ places (is_byte 10) text
    → n ≤ length feeds → n ≡ line_feeds (take at text) → (n ≡ 0 → ⊥)
    → feed ≡ get_or feeds (n - 1) feed → IsLineStart text at (feed + 1)
start_is text feeds at n feed are few count some is =
    let test = is_byte 10 in
    let known : n - 1 < length feeds = omega (arith, few, some) in
    let here : feed ≡ get_or (places test text) (n - 1) 0 =
    get_or_read feeds (n - 1) feed known is 0 ∙ ap (λ xs. get_or xs (n - 1) 0) are in
    let found : Ranked test text feed (n - 1) =
    rw here (ranked test text (n - 1) (rw (← are) known)) in
    let one = count_by_more_yes test text feed 0 found.high found.passes in
    let low : feed < at = elim (cases_lt feed at) [
      | inl before ↦ before
      | inr after ↦ absurd (omega (arith, some, rank_le test text at feed after))
    ] in
    record {
      low = omega arith;
      begins = inr (feed, refl, found.passes);
      unbroken = none_between test text (feed + 1) at (omega (arith, some)) false≢true;
    }
