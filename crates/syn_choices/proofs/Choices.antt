-- One of two values, found or missing.
use Rattle.std.proofs.Common.{arith, ◌≡◌, Bool, true, false, Option, Some, Ok}
use Rattle.std.proofs.Common.{◌||◌, Err}
use Rattle.std.specs.Prelude.{Result}
use Rattle.either.specs.Either.{map_either}
use Rattle.either.specs.declared.Either.{Either}
use Rattle.either.specs.declared.Either.TheVariants.{Left, Right}
use Rattle.tok_core.specs.Forest.{Forest}
use Rattle.tok_types.specs.Sees.{Sees}
use Rattle.syn_choices.specs.Choices.{either_of, take_either}
use Rattle.syn_parse.proofs.Failing.{fails_on, stays_here}
use Rattle.syn_parse.proofs.Premises.{given, given_left, given_right, under}
use Rattle.syn_parse.proofs.Sequences.{first_fails, then_takes}
use Rattle.syn_parse.specs.State.{State}
use Rattle.syn_parse.specs.Takes.{TakesAs, Taking, ◌>>=◌, gives}
use Rattle.syn_parse.specs.Takings.{Keeps, Takings, stated}
use Rattle.syn_parse.specs.TreesAhead.{Ahead, ahead}
use Rattle.syn_parse.specs.declared.fault.Fault.{Fault}

-- what is taken where nothing else decides is taken
same_takes : {R A : Type 0} (form : R → A) (take other : Taking A) (s t : State)
    (r : Result R Fault) → other (ahead s) ≡ take (ahead s) → TakesAs form take s r t
    → TakesAs form other s r t
same_takes form take other s t r e h = grind (arith, fails_on, stays_here)

module _ {T U A B : Type 0} (test : Ahead → Bool) (form : T → A) (shape : U → B)
    (there : Taking A) (other : Taking B) where
  abbrev one : Either T U → Either A B
  one = map_either form shape

  abbrev left : Taking (Either A B)
  left = there >>= (λ v. gives (Left v))

  abbrev right : Taking (Either A B)
  right = other >>= (λ v. gives (Right v))

  is-left : (a : Ahead) → true ≡ test a → take_either test there other a ≡ left a
  unfolding take_either
  is-left a e = grind arith

  is-right : (a : Ahead) → false ≡ test a → take_either test there other a ≡ right a
  unfolding take_either
  is-right a e = grind arith

  left-found : (s t : State) (v : T) → true ≡ test (ahead s) → TakesAs form there s (Ok v) t
      → TakesAs one (take_either test there other) s (Ok (Left v)) t
  left-found s t v e h = grind (arith, same_takes, is-left, then_takes, stays_here)

  left-fails : (s t : State) (f : Fault) → true ≡ test (ahead s) → TakesAs form there s (Err f) t
      → TakesAs one (take_either test there other) s (Err f) t
  left-fails s t f e h = grind (arith, same_takes, is-left, first_fails)

  right-found : (s t : State) (v : U) → false ≡ test (ahead s) → TakesAs shape other s (Ok v) t
      → TakesAs one (take_either test there other) s (Ok (Right v)) t
  right-found s t v e h = grind (arith, same_takes, is-right, then_takes, stays_here)

  right-fails : (s t : State) (f : Fault) → false ≡ test (ahead s)
      → TakesAs shape other s (Err f) t
      → TakesAs one (take_either test there other) s (Err f) t
  right-fails s t f e h = grind (arith, same_takes, is-right, first_fails)

-- by a peek
module _ {T U : Type 0} where
  pub left_found : (sees : Option (Forest → Bool)) (there : Takings T) (other : Takings U)
      (s t : State) (v : T) → Sees sees s.place true → Keeps there s (Ok v) t
      → Keeps (either_of sees there other) s (Ok (Left v)) t
  left_found (Some sees) (stated a form there w) (stated b shape other x) s t v e h =
      under (a || b) _ _ (λ i. left-found (λ a. sees a.trees) form shape there other s t v e
      (given a _ _ h (given_left a b _ i)))
  left_found sees there other s t v e h = tt

  pub left_fails : (sees : Option (Forest → Bool)) (there : Takings T) (other : Takings U)
      (s t : State) (f : Fault) → Sees sees s.place true → Keeps there s (Err f) t
      → Keeps (either_of sees there other) s (Err f) t
  left_fails (Some sees) (stated a form there w) (stated b shape other x) s t f e h =
      under (a || b) _ _ (λ i. left-fails (λ a. sees a.trees) form shape there other s t f e
      (given a _ _ h (given_left a b _ i)))
  left_fails sees there other s t f e h = tt

  pub right_found : (sees : Option (Forest → Bool)) (there : Takings T) (other : Takings U)
      (s t : State) (v : U) → Sees sees s.place false → Keeps other s (Ok v) t
      → Keeps (either_of sees there other) s (Ok (Right v)) t
  right_found (Some sees) (stated a form there w) (stated b shape other x) s t v e h =
      under (a || b) _ _ (λ i. right-found (λ a. sees a.trees) form shape there other s t v e
      (given b _ _ h (given_right a b _ i)))
  right_found sees there other s t v e h = tt

  pub right_fails : (sees : Option (Forest → Bool)) (there : Takings T) (other : Takings U)
      (s t : State) (f : Fault) → Sees sees s.place false → Keeps other s (Err f) t
      → Keeps (either_of sees there other) s (Err f) t
  right_fails (Some sees) (stated a form there w) (stated b shape other x) s t f e h =
      under (a || b) _ _ (λ i. right-fails (λ a. sees a.trees) form shape there other s t f e
      (given b _ _ h (given_right a b _ i)))
  right_fails sees there other s t f e h = tt
