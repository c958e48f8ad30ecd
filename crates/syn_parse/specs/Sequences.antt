-- Values of two or three types, one after another, by the visible trees ahead.
use Rattle.std.proofs.Common.{arith}
use Rattle.std.specs.Prelude.{Bool, true, false, ◌||◌}
use Rattle.syn_parse.specs.Lighter.{lessens_then}
use Rattle.syn_parse.specs.Takes.{Taking, ◌>>=◌, gives}
use Rattle.syn_parse.specs.Takings.{Lessens, Lightens, Lowers, Takings, Weighs, stated, unweighed}
use Rattle.syn_parse.specs.Takings.{untold, weighs}

-- takes two values in turn
unfoldable pub take_both : {A B : Type 0} → Taking A → Taking B → Taking (A × B)
take_both first second = do
  a ← first
  b ← second
  gives (a, b)

-- takes three values in turn
unfoldable pub take_three : {A B C : Type 0} → Taking A → Taking B → Taking C
    → Taking (A × B × C)
take_three first second third = do
  a ← first
  b ← second
  c ← third
  gives (a, b, c)

-- the later steps may take something, even if the first take nothing
pub lowers_then : {A B : Type 0} (m : Taking A) (k : A → Taking B) → Lightens m
    → ((v : A) → Lowers (k v)) → Lowers (m >>= k)
lowers_then = lessens_then false true

module _ {A B : Type 0} (first : Taking A) (second : Taking B) where
  -- two values take something if one does and the other adds nothing; they add nothing if neither
  -- does
  pub lessens_both : (x y : Bool) → Lessens x first → Lessens y second
      → Lessens (x || y) (take_both first second)
  unfolding take_both
  lessens_both x y h k = grind arith

  -- no more is ahead after two values, if neither adds to it
  pub lightens_both : Lightens first → Lightens second → Lightens (take_both first second)
  lightens_both = lessens_both false false

  -- less is ahead after two values, if the first takes something
  pub lowers_first : Lowers first → Lightens second → Lowers (take_both first second)
  lowers_first = lessens_both true false

  -- less is ahead after two values, if the second takes something
  pub lowers_second : Lightens first → Lowers second → Lowers (take_both first second)
  lowers_second = lessens_both false true

  -- how much is known of two values
  abbrev pub both_weighs : Weighs first → Weighs second → Weighs (take_both first second)
  both_weighs (weighs x h) (weighs y k) = weighs (x || y) (lessens_both x y h k)
  both_weighs h k = unweighed

module _ {A B C : Type 0} (first : Taking A) (second : Taking B) (third : Taking C) where
  -- three values take something if one does and the others add nothing; they add nothing if none
  -- does
  pub lessens_three : (x y z : Bool) → Lessens x first → Lessens y second → Lessens z third
      → Lessens (x || (y || z)) (take_three first second third)
  unfolding take_three
  lessens_three x y z h k l = grind arith

  -- no more is ahead after three values, if none of them adds to it
  pub lightens_three : Lightens first → Lightens second → Lightens third
      → Lightens (take_three first second third)
  lightens_three = lessens_three false false false

  -- less is ahead after three values, if the first takes something
  pub lowers_three : Lowers first → Lightens second → Lightens third
      → Lowers (take_three first second third)
  lowers_three = lessens_three true false false

  -- how much is known of three values
  abbrev pub three_weigh : Weighs first → Weighs second → Weighs third
      → Weighs (take_three first second third)
  three_weigh (weighs x h) (weighs y k) (weighs z l) =
      weighs (x || (y || z)) (lessens_three x y z h k l)
  three_weigh h k l = unweighed

-- two values by what their types state; at places of filled forests alone if one of them does
abbrev pub both : {T U : Type 0} → Takings T → Takings U → Takings (T × U)
both (stated a form first w) (stated b shape second x) =
    stated (a || b) (λ p. (form p.0, shape p.1)) (take_both first second)
    (both_weighs first second w x)
both first second = untold

-- three values by what their types state; at places of filled forests alone if one of them does
abbrev pub three : {T U V : Type 0} → Takings T → Takings U → Takings V → Takings (T × U × V)
three (stated a form first w) (stated b shape second x) (stated c look third y) =
    stated (a || (b || c)) (λ p. (form p.0, shape p.1, look p.2)) (take_three first second third)
    (three_weigh first second third w x y)
three first second third = untold
