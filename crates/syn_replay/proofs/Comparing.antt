-- Two lists compared item by item.
use Rattle.std.proofs.Common.{◌≡◌, ℕ, ◌+◌, ◌<◌, false, List, [], ◌∷◌, length, drop}
use Rattle.std.proofs.Common.{get_or, arith}
use Rattle.std.proofs.lemmas.Bool.{false≢true}
use Rattle.std.proofs.lemmas.List.{drop_more}
use Rattle.std.specs.Prelude.{◌↔◌, true}

-- P compares two lists, R two items
pub record Compares {A : Type 0} (P : List A → List A → Type 0) (R : A → A → Type 0) : Type 0 where
  pub none : P [] []
  pub more : (x y : A) (xs ys : List A) → P (x ∷ xs) (y ∷ ys) ↔ (R x y × P xs ys)
  pub lengths : (xs ys : List A) → P xs ys → length xs ≡ length ys

-- as many items on both sides, and what is left decides
pub record Undecided {A : Type 0} (P : List A → List A → Type 0) (i : ℕ) (xs ys : List A) : Type 0
  where
    pub lengths : length xs ≡ length ys
    pub rest : P (drop i xs) (drop i ys) ↔ P xs ys

module _ {A : Type 0} (P : List A → List A → Type 0) (R : A → A → Type 0) (c : Compares P R) where
  pub not_as_many : (xs ys : List A) → (length xs ≡ length ys → ⊥) → (false ≡ true) ↔ P xs ys
  not_as_many xs ys n = (λ h. absurd (false≢true h), λ h. absurd (n (c.lengths xs ys h)))

  first : (i : ℕ) (zs : List A) (z : A) → i < length zs → z ≡ get_or zs i z
      → drop i zs ≡ z ∷ drop (i + 1) zs
  first i zs z l e = grind (arith, drop_more)

  module _ (i : ℕ) (xs ys : List A) (x y : A) (h : i < length xs) (s : Undecided P i xs ys)
      (a : x ≡ get_or xs i x) (b : y ≡ get_or ys i y) where
    one_more : P (drop i xs) (drop i ys) ↔ (R x y × P (drop (i + 1) xs) (drop (i + 1) ys))
    one_more = grind (arith, first)

    pub goes_on : R x y → Undecided P (i + 1) xs ys
    goes_on r = record {
      lengths = s.lengths;
      rest = (λ p. s.rest.0 (one_more.1 (r, p)), λ p. (one_more.0 (s.rest.1 p)).1);
    }
