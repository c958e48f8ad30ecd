-- Values of one kind, one after another, by the visible trees ahead.
use Rattle.std.proofs.Common.{arith, ◌≡◌}
use Rattle.std.specs.Prelude.{ℕ, zero, suc, Bool, List, [], ◌∷◌, map, not, Option, Some, option_map}
use Rattle.std.specs.Global.{Vec}
use Rattle.tok_core.specs.Forest.{Forest}
use Rattle.tok_core.specs.Weight.{weight}
use Rattle.syn_parse.specs.Lighter.{lessens_refuses, lightens_gives}
use Rattle.syn_parse.specs.Nested.{Descends, descends_bind, descends_same, descends_where, levels}
use Rattle.syn_parse.specs.Nested.{lightens_nested, nested_again, take_nested}
use Rattle.syn_parse.specs.Takes.{Taking, ◌>>=◌, gives, refuses, where_ahead}
use Rattle.syn_parse.specs.Takings.{Lightens, Lowers, Takings, lighter, lower, stated, told_filled}
use Rattle.syn_parse.specs.Takings.{untold}
use Rattle.syn_parse.specs.TreesAhead.{Ahead, is_spent}

-- if the test is true, a value and then more of them; else none
abbrev pub many_step : {A : Type 0} → (Ahead → Bool) → Taking A → Taking (List A)
    → Taking (List A)
many_step test take more =
    where_ahead test (do
      v ← take
      vs ← more
      gives (v ∷ vs)) (gives [])

-- values, as long as the test is true
unfoldable pub take_many : {A : Type 0} → (Ahead → Bool) → Taking A → Taking (List A)
take_many test take = take_nested (many_step test take)

-- values, up to the end
abbrev pub take_to_end : {A : Type 0} → Taking A → Taking (List A)
take_to_end take = take_many (λ a. not (is_spent a)) take

module _ {A : Type 0} (test : Ahead → Bool) (take : Taking A) (less : Lowers take) where
  -- values ask no more of more values than that these are read from less
  many_descends : Descends 0 (many_step test take)
  many_descends = grind arith

  -- values that each take something: the first one, and then more
  pub many_again : (a : Ahead) → take_many test take a ≡ many_step test take (take_many test take) a
  unfolding take_many
  many_again a = nested_again (many_step test take) many_descends a

  -- no more is ahead after the values
  pub lightens_many : Lightens (take_many test take)
  unfolding take_many
  lightens_many = lightens_nested (many_step test take) many_descends

module _ (slack : ℕ) {A B : Type 0} (test : Ahead → Bool) (take : Taking A → Taking B)
    (h : Descends slack take) where
  -- at most `n` values ask no more of the parser that they are made of than one does
  values_descend : (n : ℕ) → Descends slack (λ m. levels n (many_step test (take m)))
  values_descend zero = descends_same slack (refuses []) (lessens_refuses [])
  values_descend (suc n) =
      descends_where slack test _ _
      (descends_bind slack take _ h
      (λ v. descends_bind slack (λ m. levels n (many_step test (take m))) _ (values_descend n)
      (λ vs. descends_same slack _ (lightens_gives (v ∷ vs)))))
      (descends_same slack _ (lightens_gives []))

  -- values ask no more of the parser that they are made of than one does
  pub descends_many : Descends slack (λ m. take_many test (take m))
  unfolding take_many take_nested
  descends_many = record {
    light = λ m l. record {
      less = λ a b v e. ((values_descend (suc (weight a.trees))).light m l).less a b v e;
    };
    same = λ m n l j a e. (values_descend (suc (weight a.trees))).same m n l j a e;
  }

-- the forms of values
abbrev pub vec_form : {T A : Type 0} → (T → A) → Vec T → List A
vec_form form vs = map form vs.items

-- as many values as a test allows, if each takes something
abbrev pub many_of : {T : Type 0} → Option (Ahead → Bool) → Takings T → Takings (Vec T)
many_of (Some test) (stated filled_alone form take (lower less)) =
    stated filled_alone (vec_form form) (take_many test take)
    (lighter (lightens_many test take less))
many_of test takes = untold

-- values as long as a peek is true
abbrev pub many : {T : Type 0} → Option (Forest → Bool) → Takings T → Takings (Vec T)
many sees takes = many_of (option_map (λ test a. test a.trees) sees) takes

-- loops at places of filled forests alone
abbrev pub where_filled : {T : Type 0} → Takings T → Takings T
where_filled untold = untold
where_filled (stated filled_alone form take weighing) = told_filled form take weighing

-- values up to the end; an empty invisible group is not the end
abbrev pub many_to_end : {T : Type 0} → Takings T → Takings (Vec T)
many_to_end takes = many_of (Some (λ a. not (is_spent a))) (where_filled takes)
