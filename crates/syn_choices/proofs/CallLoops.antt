-- A loop of a function, call by call.
use Rattle.std.proofs.Common.{◌≡◌, ◌+◌, ◌-◌, ◌<◌, ◌≤◌, ◌⊎◌, ℕ, ap, arith, sym, subst}
use Rattle.std.proofs.Common.{Bool, true, false, List, [], ◌∷◌, ◌++◌, Ok, Err, Option, length}
use Rattle.std.proofs.lemmas.List.{length-append}
use Rattle.std.specs.Global.{Vec}
use Rattle.std.specs.Prelude.{Result}
use Rattle.tok_core.specs.Weight.{weight}
use Rattle.tok_buffer.specs.Order.{same_scope}
use Rattle.tok_buffer.specs.Place.{Place}
use Rattle.tok_buffer.specs.Progress.{remaining}
use Rattle.tok_buffer.specs.View.{erased_ahead}
use Rattle.syn_parse.proofs.Premises.{under}
use Rattle.syn_parse.proofs.Repeats.{Tests, TurnsOf, turns-ended, turns-failed, turns-more}
use Rattle.syn_parse.proofs.Repeats.{turns-start}
use Rattle.syn_parse.specs.Faults.{IsMemory, Refuses}
use Rattle.syn_parse.specs.Loops.{nothing_taken}
use Rattle.syn_parse.specs.Many.{many_of}
use Rattle.syn_parse.specs.State.{State}
use Rattle.syn_parse.specs.Takes.{Taking}
use Rattle.syn_parse.specs.Takings.{Keeps, Lowers, Takings, lower, stated}
use Rattle.syn_parse.specs.TreesAhead.{Ahead}
use Rattle.syn_parse.specs.declared.fault.Fault.{Fault}
use Rattle.syn_punctuated.specs.TakeLists.{EachTakes}
use Rattle.syn_punctuated.specs.Turns.{ValueCall}
use Rattle.syn_choices.proofs.Turns.{turns_stuck}
use Rattle.syn_choices.specs.CallLoops.{Called, LoopsBy, MayGoOn, ended, lost, no_call}
use Rattle.syn_choices.specs.CallLoops.{one_more_call, refused, stuck}

-- with fewer turns than tokens, in the scope, a loop may go on
may_go_on : (start here p : Place) (count turns left : ℕ) → p ≡ start
    → count + turns ≡ remaining start - 1 → turns ≡ left + 1 → same_scope p here ≡ true
    → remaining here ≤ remaining p → MayGoOn start (count + 1) here
may_go_on start here p count turns left e h i scope less = grind arith

-- with no turn left, or out of the scope, or with more left, it may not
may_not_go_on : (start here p : Place) (count turns : ℕ) → p ≡ start
    → count + turns ≡ remaining start - 1
    → (turns ≡ 0) ⊎ ((same_scope p here ≡ false) ⊎ (remaining p < remaining here))
    → MayGoOn start (count + 1) here → ⊥
may_not_go_on start here p count turns e h k i = grind arith

-- what values state of which each call takes this
abbrev Values : {T : Type 0} → Bool → (value : Taking T) → Lowers value → Takings T
Values filled_alone value less = stated filled_alone (λ v. v) value (lower less)

-- the test of a loop is this, whatever is taken
abbrev TestIs : (T : Type 0) → Bool → Option (Ahead → Bool) → State → Bool → Type 0
TestIs T alone test s b =
    (value : Taking T) (less : Lowers value) → Tests test (Values alone value less) s b

-- values that calls returned, the function and the stream after them, and how many turns are left
pub record Turned {F T : Type 0} (goes_on ends : Place → Type 0) (calls : ValueCall F T) (f : F)
    (s : State) (test : Option (Ahead → Bool)) (alone : Bool) (vs : List T) (g : F) (t : State)
    (n : ℕ) : Type 0 where
  pub within : remaining t.place ≤ remaining s.place
  pub taken : (value : Taking T) (less : Lowers value) → EachTakes value calls
      → TurnsOf test (Values alone value less) s vs t n
  pub called : Called goes_on calls f s vs g t
  pub count : length vs + n ≡ remaining s.place - 1

-- a result of a loop, and what is stated of it
abbrev Returns : {F T : Type 0} → (goes_on ends : Place → Type 0) → ValueCall F T → F → State
    → Option (Ahead → Bool) → Bool → Result (Vec T) Fault → State → Type 0
Returns {T = T} goes_on ends calls f s test alone r t =
    LoopsBy goes_on ends calls f s r t
    × ((value : Taking T) (less : Lowers value) → EachTakes value calls
    → Keeps (many_of test (Values alone value less)) s r t)

pub turned-none : {F T : Type 0} (goes_on ends : Place → Type 0) (calls : ValueCall F T) (f : F)
    (s : State) (test : Option (Ahead → Bool)) (alone : Bool) (p : Place) (n : ℕ) (vs : List T)
    → p ≡ s.place → weight (erased_ahead p) ≤ n → n ≡ remaining p - 1 → vs ≡ []
    → Turned goes_on ends calls f s test alone vs f s n
turned-none goes_on ends calls f s test alone p n vs e h k none =
    grind (arith, turns-start, no_call)

pub loop-ended : {F T : Type 0} {goes_on ends : Place → Type 0} {calls : ValueCall F T} {f g : F}
    {s t : State} {test : Option (Ahead → Bool)} {alone : Bool} {n : ℕ} (vs : Vec T)
    → Turned goes_on ends calls f s test alone vs.items g t n → ends t.place
    → TestIs T alone test t false → Returns goes_on ends calls f s test alone (Ok vs) t
loop-ended {g} {s} {t} {test} {alone} {n} vs h e w = (
  ended vs g t h.called e,
  λ value less each.
      turns-ended test (Values alone value less) s t vs n (h.taken value less each) (w value less),
)

-- where the loop goes on
module _ {F T : Type 0} {goes_on ends : Place → Type 0} {calls : ValueCall F T} {f g : F}
    {s t : State} {test : Option (Ahead → Bool)} {alone : Bool} {vs : List T} {n : ℕ}
    (h : Turned goes_on ends calls f s test alone vs g t n) (i : goes_on t.place) where
  -- what a call takes is what its value states
  keeps : (value : Taking T) (less : Lowers value) → EachTakes value calls
      → (r : Result T Fault) (k : F) (u : State) → calls g t r k u
      → Keeps (Values alone value less) t r u
  keeps value less each r k u c = under alone _ _ (λ j. each g k t u r c)

  pub turned-more : (v : T) (k : F) (u : State) (m : ℕ) (p : Place) → TestIs T alone test t true
      → calls g t (Ok v) k u → p ≡ s.place → n ≡ m + 1 → same_scope p u.place ≡ true
      → remaining u.place ≤ remaining p → (ws : List T) → ws ≡ vs ++ v ∷ []
      → Turned goes_on ends calls f s test alone ws k u m
  turned-more v k u m p w c e l scope less ws is = record {
    within = omega (arith, less, ap remaining e);
    taken = λ value lowers each. turns-more test (Values alone value lowers) s t u vs n m v
        (h.taken value lowers each) (w value lowers) (keeps value lowers each (Ok v) k u c) l ws is;
    called = subst (λ xs. Called goes_on calls f s xs k u) (sym is)
        (one_more_call vs g t v k u h.called (i, c)
        (may_go_on s.place u.place p (length vs) n m e h.count l scope less));
    count = omega (arith, h.count, l, ap length is, length-append vs (v ∷ []));
  }

  pub loop-refused : (x : Fault) (k : F) (u : State) → TestIs T alone test t true
      → calls g t (Err x) k u → (r : Result (Vec T) Fault) → r ≡ Err x
      → Returns goes_on ends calls f s test alone r u
  loop-refused x k u w c r is =
      subst (λ y. Returns goes_on ends calls f s test alone y u) (sym is) (
        refused vs g t x k u h.called (i, c),
        λ value less each. turns-failed test (Values alone value less) s t u vs n x
            (h.taken value less each) (w value less) (keeps value less each (Err x) k u c),
      )

  pub loop-lost : (v : T) (k : F) (u : State) (x : Fault) → calls g t (Ok v) k u → IsMemory x
      → (r : Result (Vec T) Fault) → r ≡ Err x → LoopsBy goes_on ends calls f s r u
  loop-lost v k u x c memory r is =
      subst (λ y. LoopsBy goes_on ends calls f s y u) (sym is)
      (lost vs g t v k u x h.called (i, c) memory)

  pub loop-stuck : (v : T) (k : F) (u : State) (x : Fault) (p : Place) → calls g t (Ok v) k u
      → p ≡ s.place
      → (n ≡ 0) ⊎ ((same_scope p u.place ≡ false) ⊎ (remaining p < remaining u.place))
      → Refuses (nothing_taken u) x → (r : Result (Vec T) Fault) → r ≡ Err x
      → Returns goes_on ends calls f s test alone r u
  loop-stuck v k u x p c e none refuses r is =
      subst (λ y. Returns goes_on ends calls f s test alone y u) (sym is) (
        stuck vs g t v k u x h.called (i, c)
            (may_not_go_on s.place u.place p (length vs) n e h.count none) refuses,
        λ value less each. turns_stuck test (Values alone value less) s t u vs n v x
            (h.taken value less each) (keeps value less each (Ok v) k u c) p e none,
      )
