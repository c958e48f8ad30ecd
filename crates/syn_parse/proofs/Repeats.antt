-- Values that follow one another, turn by turn.
use Rattle.std.proofs.Common.{◌≡◌, arith, ℕ, ◌+◌, ◌≤◌}
use Rattle.std.proofs.Common.{Bool, true, false, cond, List, [], ◌∷◌, ◌++◌, append_assoc}
use Rattle.std.proofs.Common.{append-nil, map, Ok, Err, Option, Some}
use Rattle.std.proofs.lemmas.List.{map-append}
use Rattle.std.specs.Global.{Vec}
use Rattle.std.specs.Prelude.{Result, not, option_map}
use Rattle.tok_core.specs.Forest.{Forest}
use Rattle.tok_core.specs.Weight.{weight}
use Rattle.tok_types.specs.Sees.{Sees}
use Rattle.syn_parse.proofs.Failing.{fails_on, stays_along, stays_here}
use Rattle.syn_parse.proofs.Premises.{given, given_on, premise, under}
use Rattle.syn_parse.specs.Many.{many_again, many_of, take_many, vec_form, where_filled}
use Rattle.syn_parse.specs.State.{State}
use Rattle.syn_parse.specs.Takes.{Outcome, Stays, Taking, TakesAs, and_then, found}
use Rattle.syn_parse.specs.Takings.{Keeps, Lowers, Takings, Under, lower, stated}
use Rattle.syn_parse.specs.TreesAhead.{Ahead, IsFilled, ahead, is_spent}
use Rattle.syn_parse.specs.declared.fault.Fault.{Fault}

module _ {A : Type 0} (test : Ahead → Bool) (take : Taking A) (less : Lowers take) where
  abbrev all : Taking (List A)
  all = take_many test take

  -- these values come first
  abbrev first_of : List A → Outcome (List A) → Outcome (List A)
  first_of vs o = and_then o (λ ws b. found (vs ++ ws) b)

  -- what is ahead of the start is these values, and then what is ahead now
  abbrev SoFar : Ahead → List A → Ahead → Type 0
  SoFar a vs b = all a ≡ first_of vs (all b)

  abbrev then_more : A → Ahead → Outcome (List A)
  then_more v c = and_then (all c) (λ ws d. found (v ∷ ws) d)

  again : (b : Ahead) → all b ≡ cond (test b) (and_then (take b) then_more) (found [] b)
  again b = many_again test take less b

  first-first : (vs : List A) (v : A) (o : Outcome (List A))
      → first_of vs (and_then o (λ ws d. found (v ∷ ws) d)) ≡ first_of (vs ++ v ∷ []) o
  first-first vs v o = grind (arith, append_assoc)

  one-more : (a b c : Ahead) (vs : List A) (v : A) → SoFar a vs b → test b ≡ true
      → take b ≡ found v c → SoFar a (vs ++ v ∷ []) c
  one-more a b c vs v h e k = grind (arith, again, first-first)

  no-more : (a b : Ahead) (vs : List A) → SoFar a vs b → test b ≡ false → all a ≡ found vs b
  no-more a b vs h e = grind (arith, again, append-nil)

  module _ {T : Type 0} (form : T → A) where
    -- values that have been taken from a stream, and how many turns are left for more of them
    pub record Turns (s : State) (vs : List T) (t : State) (turns : ℕ) : Type 0 where
      pub so_far : SoFar (ahead s) (map form vs) (ahead t)
      pub stays : Stays s t
      pub enough : weight (ahead t).trees ≤ turns

    start : (s : State) (n : ℕ) → weight (ahead s).trees ≤ n → Turns s [] s n
    start s n h = grind (arith, stays_here)

    turn : (s t u : State) (vs : List T) (n m : ℕ) (v : T) → Turns s vs t n
        → true ≡ test (ahead t) → TakesAs form take t (Ok v) u → n ≡ m + 1
        → Turns s (vs ++ v ∷ []) u m
    turn s t u vs n m v so e w k = grind (arith, map-append, one-more, stays_along)

    too-many : (s t u : State) (vs : List T) (n : ℕ) (v : T) → Turns s vs t n
        → TakesAs form take t (Ok v) u → n ≡ 0 → ⊥
    too-many s t u vs n v so w k = grind arith

    ended : (s t : State) (vs : Vec T) (n : ℕ) → Turns s vs.items t n
        → false ≡ test (ahead t) → TakesAs (vec_form form) all s (Ok vs) t
    ended s t vs n so e = grind (arith, no-more)

    failed : (s t u : State) (vs : List T) (n : ℕ) (f : Fault) → Turns s vs t n
        → true ≡ test (ahead t) → TakesAs form take t (Err f) u
        → TakesAs (vec_form form) all s (Err f) u
    failed s t u vs n f so e w = grind (arith, fails_on, again)

-- the same for each kind of statement
abbrev pub TurnsOf : {T : Type 0} → Option (Ahead → Bool) → Takings T → State → List T → State → ℕ
    → Type 0
TurnsOf (Some test) (stated alone form take (lower less)) s vs t n =
    Under alone (IsFilled s.place) (Turns test take less form s vs t n)
TurnsOf test takes s vs t n = Unit {0}

-- what a test finds at a stream
abbrev pub Tests : {T : Type 0} → Option (Ahead → Bool) → Takings T → State → Bool → Type 0
Tests (Some test) (stated alone form take (lower less)) s b =
    Under alone (IsFilled s.place) (b ≡ test (ahead s))
Tests test takes s b = Unit {0}

pub seen-tests : {T : Type 0} (sees : Option (Forest → Bool)) (takes : Takings T) (s : State)
    (b : Bool) → Sees sees s.place b → Tests (option_map (λ test a. test a.trees) sees) takes s b
seen-tests sees takes s b h = grind (arith, under)

-- a stream whose end is not here has a visible tree left
pub left-tests : {T : Type 0} (takes : Takings T) (s : State) (b : Bool)
    → (IsFilled s.place → not b ≡ is_spent (ahead s))
    → Tests (Some (λ a. not (is_spent a))) (where_filled takes) s b
left-tests takes s b h = grind arith

pub filled-keeps : {T : Type 0} (takes : Takings T) (s t : State) (r : Result T Fault)
    → Keeps takes s r t → Keeps (where_filled takes) s r t
filled-keeps takes s t r h = grind (arith, given, premise)

pub turns-start : {T : Type 0} (test : Option (Ahead → Bool)) (takes : Takings T) (s : State)
    (n : ℕ) → weight (ahead s).trees ≤ n → TurnsOf test takes s [] s n
turns-start test takes s n h = grind (arith, under)

pub turns-more : {T : Type 0} (test : Option (Ahead → Bool)) (takes : Takings T) (s t u : State)
    (vs : List T) (n m : ℕ) (v : T) → TurnsOf test takes s vs t n → Tests test takes t true
    → Keeps takes t (Ok v) u → n ≡ m + 1 → (ws : List T) → ws ≡ vs ++ v ∷ []
    → TurnsOf test takes s ws u m
turns-more (Some test) (stated alone form take (lower less)) s t u vs n m v so e w k ws h =
    under alone _ _ (λ i.
    let now = given alone _ _ so i in
    let j = given_on alone _ _ now.stays.0 i in
    rw h (turn test take less form s t u vs n m v now (given alone _ _ e j)
    (given alone _ _ w j) k))
turns-more test takes s t u vs n m v so e w k ws h = tt

pub turns-ended : {T : Type 0} (test : Option (Ahead → Bool)) (takes : Takings T) (s t : State)
    (vs : Vec T) (n : ℕ) → TurnsOf test takes s vs.items t n → Tests test takes t false
    → Keeps (many_of test takes) s (Ok vs) t
turns-ended (Some test) (stated alone form take (lower less)) s t vs n so e =
    under alone _ _ (λ i.
    let now = given alone _ _ so i in
    ended test take less form s t vs n now
    (given alone _ _ e (given_on alone _ _ now.stays.0 i)))
turns-ended test takes s t vs n so e = tt

pub turns-failed : {T : Type 0} (test : Option (Ahead → Bool)) (takes : Takings T) (s t u : State)
    (vs : List T) (n : ℕ) (f : Fault) → TurnsOf test takes s vs t n → Tests test takes t true
    → Keeps takes t (Err f) u → Keeps (many_of test takes) s (Err f) u
turns-failed (Some test) (stated alone form take (lower less)) s t u vs n f so e w =
    under alone _ _ (λ i.
    let now = given alone _ _ so i in
    let j = given_on alone _ _ now.stays.0 i in
    failed test take less form s t u vs n f now (given alone _ _ e j) (given alone _ _ w j))
turns-failed test takes s t u vs n f so e w = tt

-- a value that takes something leaves a turn for the next one
pub turns-stuck : {T : Type 0} (test : Option (Ahead → Bool)) (takes : Takings T) (s t u : State)
    (vs : List T) (n : ℕ) (v : T) (f : Fault) → TurnsOf test takes s vs t n
    → Keeps takes t (Ok v) u → n ≡ 0 → Keeps (many_of test takes) s (Err f) u
turns-stuck (Some test) (stated alone form take (lower less)) s t u vs n v f so w k =
    under alone _ _ (λ i.
    let now = given alone _ _ so i in
    absurd (too-many test take less form s t u vs n v now
    (given alone _ _ w (given_on alone _ _ now.stays.0 i)) k))
turns-stuck test takes s t u vs n v f so w k = tt
