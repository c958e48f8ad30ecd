-- A value that is taken if its peek is true, and else nothing.
use Rattle.std.proofs.Common.{arith}
use Rattle.std.specs.Prelude.{ℕ, Bool, Option, None, Some, option_map}
use Rattle.tok_core.specs.Forest.{Forest}
use Rattle.syn_parse.specs.Lighter.{lightens}
use Rattle.syn_parse.specs.Nested.{Descends}
use Rattle.syn_parse.specs.Takes.{Taking, ◌>>=◌, gives, where_ahead}
use Rattle.syn_parse.specs.Takings.{Lightens, Takings, Weighs, lighter, stated, untold, unweighed}
use Rattle.syn_parse.specs.Takings.{weighs}
use Rattle.syn_parse.specs.TreesAhead.{Ahead}

-- a value if the test is true, and else nothing
unfoldable pub take_optional : {A : Type 0} → (Ahead → Bool) → Taking A → Taking (Option A)
take_optional test take =
    where_ahead test (do
      v ← take
      gives (Some v)) (gives None)

-- an option adds nothing if its value doesn't
pub lightens_optional : {A : Type 0} (test : Ahead → Bool) (take : Taking A) → Lightens take
    → Lightens (take_optional test take)
unfolding take_optional
lightens_optional test take h = grind arith

-- an option asks no more of the parser that it is made of than its value does
pub descends_optional : (slack : ℕ) {A B : Type 0} (test : Ahead → Bool)
    (take : Taking A → Taking B) → Descends slack take
    → Descends slack (λ m. take_optional test (take m))
unfolding take_optional
descends_optional slack test take h = grind arith

-- an option adds nothing if its value doesn't; it may take nothing even if its value never does
abbrev pub optional_weighs : {A : Type 0} (test : Ahead → Bool) (take : Taking A) → Weighs take
    → Weighs (take_optional test take)
optional_weighs test take unweighed = unweighed
optional_weighs test take (weighs strict h) =
    lighter (lightens_optional test take (lightens strict take h))

-- what an `Option` states, by what its type states
abbrev pub optional : {T : Type 0} → Option (Forest → Bool) → Takings T → Takings (Option T)
optional (Some test) (stated filled_alone form take weighing) =
    stated filled_alone (option_map form) (take_optional (λ a. test a.trees) take)
    (optional_weighs (λ a. test a.trees) take weighing)
optional sees takes = untold
