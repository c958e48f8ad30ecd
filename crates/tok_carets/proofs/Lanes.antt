-- Bytes counted in lanes: 1 is added to the lane of each byte that passes.
use Rattle.std.proofs.Common.{◌≡◌, ◌∙◌, ℕ, ◌+◌, ◌*◌, ◌%◌, ◌<◌, ◌≤◌, List, [], ◌∷◌, Bool}
use Rattle.std.proofs.Common.{cond, count_by, length, map, replicate, take, refl, ap}
use Rattle.std.proofs.Common.{arith, eqb, sym, w8}
use Rattle.std.specs.Simd.Lanes.{Each1, chunk, fold_l, sel_l, sum_l, top, zip2}
use Rattle.memchr.specs.Find.{is_byte}
use Rattle.std.proofs.lemmas.Simd.{tops_compared, zip2_splat}
use Rattle.std.proofs.lemmas.Bool.{cond_both}
use Rattle.std.proofs.lemmas.List.{drop-take, take-take}
use Rattle.std.proofs.lemmas.List.Sums.{sum_by-cons, sum_by-take-drop}
use Rattle.tok_carets.proofs.Feeds.{one}

module _ (p : ℕ → Bool) where
  -- the lanes of a choice of 1 or 0 by a test of each byte
  pub chosen : (xs : List ℕ) → sel_l {A = ℕ} (map p xs) (replicate (length xs) 1)
      (replicate (length xs) 0) ≡ map (one p) xs
  chosen [] = refl
  chosen (x ∷ xs) = ap (λ rest. one p x ∷ rest) (chosen xs)

  -- the lanes after one more step, with no carry out of a byte
  abbrev pub stepped : (counts xs : List ℕ) → List ℕ
  stepped counts xs = zip2 (λ a b. (a + b) % 256) counts (map (one p) xs)

  -- these lanes are at most k, and count the bytes xs more
  abbrev pub Counted : (k : ℕ) (counts xs after : List ℕ) → Type 0
  Counted k counts xs after =
      Each1 (λ n. n ≤ k) after × (sum_l after ≡ sum_l counts + count_by p xs)

  pub counted : (k : ℕ) (counts xs : List ℕ) → k < 255 → length counts ≡ length xs
      → Each1 (λ n. n ≤ k) counts → Counted (k + 1) counts xs (stepped counts xs)
  counted k [] [] few same low = (tt, refl)
  counted k [] (x ∷ xs) few same low = absurd (omega (arith, same))
  counted k (n ∷ counts) [] few same low = absurd (omega (arith, same))
  counted k (n ∷ counts) (x ∷ xs) few same low =
      let more = counted k counts xs few (omega (arith, same)) low.1 in
      let is = sum_by-cons (one p) x xs in
      let little = cond_both (p x) 1 0 (λ a. a ≤ 1) (λ t. omega arith) (λ f. omega arith) in
      ((omega (arith, low.0), more.0), omega (arith, low.0, more.1))

  -- what n bytes more add to the count
  pub count_more : (xs : List ℕ) (i n : ℕ)
      → count_by p (take (i + n) xs) ≡ count_by p (take i xs) + count_by p (chunk i n xs)
  count_more xs i n =
      let front = take-take i (i + n) xs (omega arith) in
      let back = drop-take i n xs in
      let both = sum_by-take-drop (one p) (take (i + n) xs) i in
      cc

-- the line feeds among the first bytes are counted
pub record HasCounted (bytes : List ℕ) (at count : ℕ) : Type 0 where
  pub within : at ≤ length bytes
  pub is : count ≡ count_by (is_byte 10) (take at bytes)

-- the lanes of a choice of 1 or 0 by a comparison with a byte
pub compared : (n byte : ℕ) (xs : List ℕ) → length xs ≡ n
    → sel_l {A = ℕ} (map (top 7) (zip2 (λ a b. cond (eqb a b) 255 0) xs (replicate n byte)))
    (replicate n 1) (replicate n 0) ≡ map (one (is_byte byte)) xs
compared n byte xs long =
    ap (λ ms. sel_l {A = ℕ} ms (replicate n 1) (replicate n 0))
    (tops_compared w8 eqb xs (replicate n byte) ∙ zip2_splat eqb xs n byte long)
    ∙ ap (λ m. sel_l {A = ℕ} (map (is_byte byte) xs) (replicate m 1) (replicate m 0)) (sym long)
    ∙ chosen (is_byte byte) xs

-- the sum of lanes that are bytes, in 16 bits
pub summed : (a : ℕ) (xs : List ℕ) → Each1 (λ n. n ≤ 255) xs → a + 255 * length xs < 65536
    → fold_l (λ s x. (s + x) % 65536) a (map (λ x. x) xs) ≡ a + sum_l xs
summed a [] low room = omega arith
summed a (x ∷ xs) low room =
    let first = low.0 in
    let whole : (a + x) % 65536 ≡ a + x = omega arith in
    let rest = summed (a + x) xs low.1 (omega arith) in
    let sum : a + x + sum_l xs ≡ a + sum_l (x ∷ xs) = omega arith in
    cc
