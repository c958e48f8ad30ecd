-- The error of a value after a token is one that the definition of both states.
use Rattle.std.proofs.Common.{arith, ◌≡◌, true, Option, Some, Err, Bool, Ok}
use Rattle.std.specs.Prelude.{option_map}
use Rattle.tok_core.specs.Forest.{Forest}
use Rattle.tok_types.specs.Sees.{Sees}
use Rattle.syn_parse.proofs.Failing.{fails_on}
use Rattle.syn_parse.proofs.Premises.{given, under, given_on}
use Rattle.syn_parse.specs.State.{State}
use Rattle.syn_parse.specs.Takes.{Taking, TakesAs}
use Rattle.syn_parse.specs.Takings.{Keeps, Takings, stated, told}
use Rattle.syn_parse.specs.TreesAhead.{Ahead, ahead}
use Rattle.syn_parse.specs.declared.fault.Fault.{Fault}
use Rattle.syn_parse.specs.After.{after, take_after}

module _ {P T A B : Type 0} (shape : P → A) (form : T → B) (token : Taking A) (take : Taking B)
    (test : Ahead → Bool) where
  value-fails : (s m t : State) (p : P) (f : Fault) → true ≡ test (ahead s)
      → TakesAs shape token s (Ok p) m → TakesAs form take m (Err f) t
      → TakesAs (option_map (λ (r : P × T). (shape r.0, form r.1))) (take_after test token take) s
      (Err f) t
  unfolding take_after
  value-fails s m t p f h k w = grind (arith, fails_on)

pub value_fails : {P T : Type 0} (sees : Option (Forest → Bool)) (tokens : Takings P)
    (values : Takings T) (s m t : State) (p : P) (f : Fault) → Sees sees s.place true
    → Keeps tokens s (Ok p) m → Keeps values m (Err f) t
    → Keeps (after sees tokens values) s (Err f) t
value_fails (Some sees) (told shape token x) (stated alone form take y) s m t p f h k w =
    under alone _ _ (λ i. value-fails shape form token take (λ a. sees a.trees) s m t p f h k
    (given alone _ _ w (given_on alone _ _ k.1.0 i)))
value_fails sees tokens values s m t p f h k w = tt
