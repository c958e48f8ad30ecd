-- Two choices by tests that are equal.
use Rattle.std.proofs.Common.{◌≡◌, Bool, cond}
use Rattle.std.proofs.Common.{arith}

-- what relates both parts of two choices relates what is chosen
pub either : {A B : Type 0} (R : A → B → Type 0) (a b : Bool) (x : A) (y : B) (z : A) (w : B)
    → a ≡ b → R x y → R z w → R (cond a x z) (cond b y w)
either a0 a1 a2 a3 a4 a5 a6 a7 a8 a9 = grind arith
