-- Lists in values that hold values of their own kind.
use Rattle.std.proofs.Common.{arith}
use Rattle.std.proofs.Common.{ℕ, zero, suc, Bool}
use Rattle.tok_core.specs.Weight.{weight}
use Rattle.syn_parse.specs.Lighter.{lessens_bind, lessens_where, lightens_gives, lightens_lower}
use Rattle.syn_parse.specs.Nested.{Descends, descending, descends_same}
use Rattle.syn_parse.specs.Takes.{Taking}
use Rattle.syn_parse.specs.Takings.{Lightens, Lowers}
use Rattle.syn_parse.specs.TreesAhead.{Ahead}
use Rattle.syn_punctuated.specs.TakeLists.{always, take_list, take_turns}

module _ (slack : ℕ) {A B P : Type 0} (begins goes_on : Ahead → Bool)
    (value : Taking A → Taking B) (sign : Taking P) (h : Descends slack value)
    (light : Lightens sign) where
  -- so many turns of a list ask no more of the parser than its values do
  turns_descend : (n : ℕ) → Descends slack (λ m. take_turns n begins goes_on (value m) sign)
  turns_descend zero = descends_same slack _ (record { less = λ a b v e. absurd (cc) })
  turns_descend (suc n) = grind (arith, turns_descend n)

  -- a list asks no more of the parser that it is made of than its values do
  pub descends_list : Descends slack (λ m. take_list begins goes_on (value m) sign)
  unfolding take_list
  descends_list = record {
    light = λ m l. record {
      less = λ a b v e.
          ((turns_descend (suc (weight a.trees))).light m l).less a b v e;
    };
    same = λ m n l j a e. (turns_descend (suc (weight a.trees))).same m n l j a e;
  }

-- a list of values that take no more than is ahead takes no more
pub lightens_list : {A P : Type 0} (begins goes_on : Ahead → Bool) (value : Taking A)
    (sign : Taking P) → Lightens value → Lightens sign
    → Lightens (take_list begins goes_on value sign)
lightens_list {A} begins goes_on value sign h k =
    (descends_list 0 begins goes_on (λ m. value) sign (descends_same 0 {A = A} value h) k).light
    value h

-- a list of at least one value takes something, if its values do
pub lowers_list : {A P : Type 0} (goes_on : Ahead → Bool) (value : Taking A) (sign : Taking P)
    → Lowers value → Lightens sign → Lowers (take_list always goes_on value sign)
unfolding take_list
lowers_list {A} goes_on value sign h k = record {
  less = λ a b v e. (go (weight a.trees)).less a b v e;
} where
  rest : (n : ℕ) → Lightens (take_turns n always goes_on value sign)
  rest n =
      (turns_descend 0 always goes_on (λ m. value) sign
      (descends_same 0 {A = A} value (lightens_lower value h)) k n).light value
      (lightens_lower value h)

  go : (n : ℕ) → Lowers (take_turns (suc n) always goes_on value sign)
  go n =
      lessens_bind value _ h (λ v. lessens_where goes_on _ _
      (lessens_bind sign _ k
      (λ p. lessens_bind (take_turns n always goes_on value sign) _ (rest n)
      (λ r. lightens_gives _))) (lightens_gives _))

-- with these `search` proves it of what has lists too
pub ruleset descending_lists = (descending, lightens_list, lowers_list, descends_list)
