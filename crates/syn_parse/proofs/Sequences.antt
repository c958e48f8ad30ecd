-- Values that follow one another, and one that fails.
use Rattle.std.proofs.Common.{arith, Bool, ◌||◌, Ok, Err}
use Rattle.std.specs.Prelude.{Result}
use Rattle.syn_parse.proofs.Failing.{fails_on, stays_along, stays_here}
use Rattle.syn_parse.proofs.Premises.{Premise, given, given_left, given_on, given_right, under}
use Rattle.syn_parse.specs.Reads.{BothParse, Call, ThreeParse}
use Rattle.syn_parse.specs.Sequences.{both, take_both, take_three, three}
use Rattle.syn_parse.specs.State.{State}
use Rattle.syn_parse.specs.Takes.{TakesAs, Taking, ◌>>=◌}
use Rattle.syn_parse.specs.Takings.{Keeps, Takings, Under, stated}
use Rattle.syn_parse.specs.TreesAhead.{IsFilled}
use Rattle.syn_parse.specs.declared.fault.Fault.{Fault}

-- a value and what comes after it, which may fail; or a value that fails
module _ {T R A B : Type 0} (form : T → A) (whole : R → B) (take : Taking A)
    (more : A → Taking B) where
  pub then_takes : (s m t : State) (v : T) (r : Result R Fault) → TakesAs form take s (Ok v) m
      → TakesAs whole (more (form v)) m r t → TakesAs whole (take >>= more) s r t
  then_takes s m t v r h k = grind (arith, stays_along, fails_on)

  pub first_fails : (s t : State) (f : Fault) → TakesAs form take s (Err f) t
      → TakesAs whole (take >>= more) s (Err f) t
  first_fails s t f h = grind (arith, fails_on, stays_here)

-- calls on streams of filled forests, if the flag is set
abbrev On : {T : Type 0} → Bool → Call T → Call T
On alone calls s r t = Under alone (IsFilled s.place) (calls s r t)

-- calls in turn: the later one is on such a stream if the first one is
in_turn : (a b : Bool) {T U A : Type 0} (form : T → A) (take : Taking A) (R S : Call U)
    → ((s : State) (r : Result U Fault) (t : State) → Premise b (IsFilled s.place) → R s r t
    → S s r t)
    → (s : State) (r : Result (T × U) Fault) (t : State) → Premise (a || b) (IsFilled s.place)
    → BothParse (On a (TakesAs form take)) R s r t → BothParse (TakesAs form take) S s r t
in_turn a b form take R S g s r t i h = grind (arith, given, given_left, given_on, given_right)

module _ {T U A B : Type 0} (form : T → A) (shape : U → B) (first : Taking A)
    (second : Taking B) where
  abbrev pair : T × U → A × B
  pair p = (form p.0, shape p.1)

  pair_takes : (s : State) (r : Result (T × U) Fault) (t : State)
      → BothParse (TakesAs form first) (TakesAs shape second) s r t
      → TakesAs pair (take_both first second) s r t
  unfolding take_both
  pair_takes s r t h = grind (arith, then_takes, stays_here, first_fails)

-- two values in turn keep what is stated
pub both_keep : {T U : Type 0} (first : Takings T) (second : Takings U) (s : State)
    (r : Result (T × U) Fault) (t : State) → BothParse (Keeps first) (Keeps second) s r t
    → Keeps (both first second) s r t
both_keep (stated a form first x) (stated b shape second y) s r t h =
    under (a || b) _ _ (λ i. pair_takes form shape first second s r t
    (in_turn a b form first (On b (TakesAs shape second)) (TakesAs shape second)
    (λ s r t j k. given b _ _ k j) s r t i h))
both_keep first second s r t h = tt

module _ {T U V A B C : Type 0} (form : T → A) (shape : U → B) (look : V → C) (first : Taking A)
    (second : Taking B) (third : Taking C) where
  abbrev triple : T × U × V → A × B × C
  triple p = (form p.0, shape p.1, look p.2)

  triple_takes : (s : State) (r : Result (T × U × V) Fault) (t : State)
      → ThreeParse (TakesAs form first) (TakesAs shape second) (TakesAs look third) s r t
      → TakesAs triple (take_three first second third) s r t
  unfolding take_three
  triple_takes s r t h = grind (arith, then_takes, stays_here, first_fails)

  module _ (a b c : Bool) where
    abbrev Later : Call (U × V)
    Later = BothParse (On b (TakesAs shape second)) (On c (TakesAs look third))

    later : (s : State) (r : Result (U × V) Fault) (t : State)
        → Premise (b || c) (IsFilled s.place) → Later s r t
        → BothParse (TakesAs shape second) (TakesAs look third) s r t
    later = grind (arith, in_turn, given)

    triple_keeps : (s : State) (r : Result (T × U × V) Fault) (t : State)
        → Premise (a || (b || c)) (IsFilled s.place)
        → ThreeParse (On a (TakesAs form first)) (On b (TakesAs shape second))
        (On c (TakesAs look third)) s r t
        → TakesAs triple (take_three first second third) s r t
    triple_keeps s (Ok v) t i h =
        triple_takes s (Ok v) t
        (in_turn a (b || c) form first Later _ later s (Ok (v.0, (v.1, v.2))) t i h)
    triple_keeps s (Err f) t i h =
        triple_takes s (Err f) t (in_turn a (b || c) form first Later _ later s (Err f) t i h)

-- three values in turn keep what is stated
pub three_keep : {T U V : Type 0} (first : Takings T) (second : Takings U) (third : Takings V)
    (s : State) (r : Result (T × U × V) Fault) (t : State)
    → ThreeParse (Keeps first) (Keeps second) (Keeps third) s r t
    → Keeps (three first second third) s r t
three_keep (stated a form first _) (stated b shape second _) (stated c look third _) s r t h =
    under (a || (b || c)) _ _ (λ i. triple_keeps form shape look first second third a b c s r t i h)
three_keep first second third s r t h = tt
