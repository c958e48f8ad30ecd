-- From the bits that a test of 16 bytes gives to how many of them pass, and how many fail.
use Rattle.std.proofs.Math.Seq.{take-nil}
use Rattle.std.proofs.Common.{◌≡◌, ◌∙◌, ℕ, ◌+◌, ◌<◌, ◌≤◌, ◌%◌, ◌^◌, Bool, not, List, [], ◌∷◌, map, length}
use Rattle.std.proofs.Common.{ap, arith, Fits, w8, replicate, true, inl, inr, refl, cond}
use Rattle.std.proofs.Common.{suc, zero, count_by, take, ◌++◌}
use Rattle.std.specs.Prelude.{count_ones}
use Rattle.std.specs.List.{prefix_len}
use Rattle.std.proofs.lemmas.Bool.{not-true, not-false, agree_below, agree_below_at, cases_lt}
use Rattle.std.proofs.lemmas.List.{length-map}
use Rattle.std.proofs.lemmas.List.Sums.{sum_by-append}
use Rattle.std.proofs.lemmas.Simd.{map-map, mask_l-mod, length-chunk, trailing_mask_l, ones-mask_l}
use Rattle.std.proofs.lemmas.Simd.{none_from_empty_mask, zip2_of_maps, zip2_splat, splat_is_map}
use Rattle.std.proofs.lemmas.Simd.{run_in_chunk_le, run_in_chunk_fails, run_in_chunk_stops}
use lib.Count.{count_trailing_zeros}
use lib.Lanes.{chunk, mask_l, top, zip2, Each1}
use Rattle.tok_lexical.specs.Scans.{failing_bits}
use Rattle.tok_lexical.specs.Private.Scans.{AllPass, IsRun}

-- an operation on two vectors that were computed lane by lane from one
pub lanewise : (h : ℕ → ℕ → ℕ) (f g : ℕ → ℕ) (load : List ℕ) {xs ys : List ℕ} →
    xs ≡ map f load → ys ≡ map g load → zip2 h xs ys ≡ map (λ x. h (f x) (g x)) load
lanewise h f g load p q = zip2_of_maps {X = ℕ} {Y = ℕ} {Z = ℕ} h f g load p q

-- the same byte in each lane
pub splat : (load : List ℕ) (n y : ℕ) → length load ≡ n → replicate n y ≡ map (λ _. y) load
splat load n y long = splat_is_map load n y long

-- an operation on a load and such a vector
pub with_splat : (h : ℕ → ℕ → ℕ) (load : List ℕ) (n y : ℕ) → length load ≡ n →
    zip2 h load (replicate n y) ≡ map (λ x. h x y) load
with_splat h load n y long = zip2_splat {X = ℕ} {Y = ℕ} {Z = ℕ} h load n y long

module _ (passes : ℕ → Bool) where
  -- the bytes that fail
  abbrev fails : ℕ → Bool
  fails byte = not (passes byte)

  each_lane : (f : ℕ → ℕ) → ((x : ℕ) → x < 256 → top 7 (f x) ≡ fails x) → (load : List ℕ) →
      Each1 (Fits w8) load → map (λ x. top 7 (f x)) load ≡ map fails load
  each_lane f agrees [] fits = refl
  each_lane f agrees (x ∷ load) fits =
      rw (agrees x (fits.0).fits, each_lane f agrees load fits.1) refl

  -- the bits of lanes, of which each is set just if its byte fails
  pub bits_of : (load lanes : List ℕ) (f : ℕ → ℕ) → length load ≡ 16 → Each1 (Fits w8) load →
      lanes ≡ map f load → ((x : ℕ) → x < 256 → top 7 (f x) ≡ fails x) →
      mask_l (map (top 7) lanes) % 2 ^ 64 ≡ failing_bits passes load
  bits_of load lanes f long fits same agrees =
      rw (same, map-map (top 7) f load, each_lane f agrees load fits)
      (mask_l-mod (map fails load) 64 (omega (arith, length-map load fails, long)))

  -- the same, held against the test at each byte by computing
  pub bits_by_table : (load lanes : List ℕ) (f : ℕ → ℕ) → length load ≡ 16 →
      Each1 (Fits w8) load → lanes ≡ map f load → agree_below (λ x. top 7 (f x)) fails 256 ≡ true →
      mask_l (map (top 7) lanes) % 2 ^ 64 ≡ failing_bits passes load
  bits_by_table load lanes f long fits same table =
      bits_of load lanes f long fits same
      (λ x l. agree_below_at (λ d. top 7 (f d)) fails 256 x table l)

  -- a load without a bit
  pub no_stop : (bytes : List ℕ) (at : ℕ) → at + 16 ≤ length bytes →
      failing_bits passes (chunk at 16 bytes) ≡ 0 → IsRun passes bytes at 16 16
  no_stop bytes at room none = record {
    few = omega arith;
    pass = λ k from to. not-false _ (none_from_empty_mask fails bytes at 16 0 room none k from to);
    stops = λ short. absurd (omega arith);
  }

  -- and one whose lowest bit is told
  pub first_stop : (bytes : List ℕ) (at bits run : ℕ) → at + 16 ≤ length bytes →
      bits ≡ failing_bits passes (chunk at 16 bytes) → (bits ≡ 0 → ⊥) →
      run ≡ count_trailing_zeros 64 bits → IsRun passes bytes at 16 run
  first_stop bytes at bits run room same some found =
      let load = chunk at 16 bytes in
      let long : length load ≡ 16 = length-chunk at 16 bytes room in
      let bit : 0 < failing_bits passes load = positive (failing_bits passes load)
      (λ none. some (same ∙ none)) in
      let counted : run ≡ prefix_len (λ x. not (fails x)) load =
      found ∙ ap (count_trailing_zeros 64) same
      ∙ trailing_mask_l fails 64 load (omega arith) bit in
      record {
        few = run_in_chunk_le fails bytes at 16 run 0 room counted;
        pass = λ k from to. not-false _
            (run_in_chunk_fails fails bytes at 16 run 0 room counted k from to);
        stops = λ short. not-true _
            (run_in_chunk_stops fails bytes at 16 run 0 room counted short);
      }
    where
      positive : (n : ℕ) → (n ≡ 0 → ⊥) → 0 < n
      positive n some = omega arith

  -- a last load, which goes back over bytes that pass
  pub last_run : (bytes : List ℕ) (at seen run : ℕ) → at + 16 ≡ length bytes → at ≤ seen →
      AllPass passes bytes 0 seen → IsRun passes bytes at 16 run →
      IsRun passes bytes 0 (length bytes) (at + run)
  last_run bytes at seen run whole back pass r =
      let same : at + run ≡ 0 + (at + run) = omega arith in
      record {
        few = let f = r.few in omega arith;
        pass = λ k from to. elim (cases_lt k seen) [
          | inl early ↦ pass k from early
          | inr late ↦ r.pass k (omega arith) (omega arith)
        ];
        stops = λ short. rw (← same) (r.stops (omega arith));
      }

  -- how many fail with those of one more load
  pub counted_more : (bytes : List ℕ) (at count bits : ℕ) →
      count ≡ count_by fails (take at bytes) → bits ≡ failing_bits passes (chunk at 16 bytes) →
      count + count_ones bits ≡ count_by fails (take (at + 16) bytes)
  counted_more bytes at count bits before same =
      rw (
        before,
        same,
        cut at bytes,
        ones-mask_l fails (chunk at 16 bytes),
        sum_by-append (λ x. cond (fails x) 1 0) (take at bytes) (chunk at 16 bytes),
      ) refl
    where
      next : (i : ℕ) → suc i + 16 ≡ suc (i + 16)
      next i = omega arith

      cut : (i : ℕ) (xs : List ℕ) → take (i + 16) xs ≡ take i xs ++ chunk i 16 xs
      cut zero xs = refl
      cut (suc i) [] = rw (take-nil, take-nil) refl
      cut (suc i) (x ∷ xs) = rw (next i, cut i xs) refl
