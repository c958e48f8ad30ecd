-- What is chosen by a test, and when a test fails.
use Rattle.std.proofs.Common.{arith, ◌≡◌, ℕ, eqb-true}
use Rattle.std.specs.Prelude.{Bool, true, false, ◌==◌, ◌||◌, ◌&&◌, if◌then◌else◌}
use Rattle.std.proofs.lemmas.Bool.{false≢true, false_from_ne_true}

-- what holds of both holds of the one that is chosen
pub either : {A : Type 0} (P : A → Type 0) (b : Bool) (x y : A) → P x → P y
    → P (if b then x else y)
either P b x y h k = grind arith

-- and the test is known where the first is chosen
pub given : {A : Type 0} (P : A → Type 0) (b : Bool) (x y : A) → (b ≡ true → P x) → P y
    → P (if b then x else y)
given P b x y h k = grind arith

-- the first is chosen
pub chosen : {A : Type 0} (b : Bool) (x y : A) → b ≡ true → (if b then x else y) ≡ x
chosen b x y e = grind (arith, false≢true)

-- the first is passed over
pub past : {A : Type 0} (b : Bool) (x y z : A) → b ≡ false → y ≡ z → (if b then x else y) ≡ z
past b x y z e f = grind (arith, false≢true)

pub neither : (a b : Bool) → a ≡ false → b ≡ false → (a || b) ≡ false
neither a b e f = grind (arith, false≢true)

pub not_first : (a b : Bool) → a ≡ false → (a && b) ≡ false
not_first a b e = grind (arith, false≢true)

pub not_second : (a b : Bool) → b ≡ false → (a && b) ≡ false
not_second a b e = grind arith

-- a character that passes a test is none that fails it
pub differs : (p : ℕ → Bool) (c k : ℕ) → p c ≡ true → p k ≡ false → (c == k) ≡ false
differs p c k h n = grind (arith, false_from_ne_true, false≢true, eqb-true)
