-- Claims under a premise, if there is one.
use Rattle.std.proofs.Common.{arith, Bool, true, false, ◌||◌}
use Rattle.syn_parse.specs.Takings.{Under}

-- the premise, if there is one
abbrev pub Premise : Bool → Type 0 → Type 0
Premise false P = Unit {0}
Premise true P = P

pub premise : (b : Bool) (P : Type 0) → P → Premise b P
premise b P p = grind arith

pub under : (b : Bool) (P Q : Type 0) → (Premise b P → Q) → Under b P Q
under b P Q f = grind arith

pub given : (b : Bool) (P Q : Type 0) → Under b P Q → Premise b P → Q
given b P Q h i = grind arith

pub given_on : (b : Bool) (P Q : Type 0) → (P → Q) → Premise b P → Premise b Q
given_on b P Q f i = grind arith

pub given_left : (a b : Bool) (P : Type 0) → Premise (a || b) P → Premise a P
given_left a b P i = grind arith

pub given_right : (a b : Bool) (P : Type 0) → Premise (a || b) P → Premise b P
given_right a b P i = grind arith
