-- A value that is parsed on a fork, by the visible trees ahead.
use Rattle.std.proofs.Common.{arith, ◌≡◌}
use Rattle.std.proofs.Common.{false, Option, Some, None, Ok, Err}
use Rattle.std.specs.Prelude.{Result, option_map}
use Rattle.tok_buffer.specs.Order.{same_scope}
use Rattle.syn_choices.specs.Attempts.{Attempts, attempt_of, attempted, take_attempt}
use Rattle.syn_parse.proofs.Failing.{says_memory, stays_here}
use Rattle.syn_parse.proofs.Premises.{given, under}
use Rattle.syn_parse.proofs.Scopes.{advanced_ahead, in_one_scope}
use Rattle.syn_parse.specs.Faults.{IsMemory}
use Rattle.syn_parse.specs.Reads.{Call}
use Rattle.syn_parse.specs.State.{State, advanced, forked}
use Rattle.syn_parse.specs.Takes.{IsMissing, Outcome, TakesAs, Taking, found}
use Rattle.syn_parse.specs.Takes.{TakeEach, Takes}
use Rattle.syn_parse.specs.Takings.{Keeps, Takings, stated, untold}
use Rattle.syn_parse.specs.TreesAhead.{ahead}
use Rattle.syn_parse.specs.declared.fault.Fault.{Fault}

module _ {T A : Type 0} (form : T → A) (take : Taking A) where
  some-found : (s fork : State) (v : T) → TakesAs form take (forked s) (Ok v) fork
      → TakesAs (option_map form) (take_attempt take) s (Ok (Some v)) (advanced fork s)
  unfolding take_attempt
  some-found s fork v h = grind (arith, advanced_ahead)

  is-none : (s : State) (o : Outcome A) → IsMissing o
      → attempt_of (ahead s) o ≡ found None (ahead s)
  is-none s o h = grind arith

  none-found : (s fork : State) (e : Fault) → TakesAs form take (forked s) (Err e) fork
      → (IsMemory e → ⊥) → TakesAs (option_map form) (take_attempt take) s (Ok None) s
  unfolding take_attempt
  none-found s fork e h k = grind (arith, is-none, stays_here)

  no-memory : (s : State) (e : Fault) → IsMemory e
      → TakesAs (option_map form) (take_attempt take) s (Err e) s
  no-memory s e h = grind (arith, says_memory)

  in-scope : (s fork : State) (v : T) → TakesAs form take (forked s) (Ok v) fork
      → same_scope s.place fork.place ≡ false → ⊥
  in-scope s fork v h e = grind (arith, in_one_scope)

  attempt-takes : (calls : Call T) (s : State)
      → ((r : Result T Fault) (t : State) → calls (forked s) r t → TakesAs form take (forked s) r t)
      → (r : Result (Option T) Fault) (t : State) → Attempts calls s r t
      → TakesAs (option_map form) (take_attempt take) s r t
  attempt-takes calls s h r t k = grind (arith, some-found, none-found, no-memory, in-scope)

-- an attempt keeps what each call of its parser does
pub attempt_keeps : {T : Type 0} (takes : Takings T) (calls : Call T)
    → ((s : State) (r : Result T Fault) (t : State) → calls s r t → Keeps takes s r t)
    → (s : State) (r : Result (Option T) Fault) (t : State) → Attempts calls s r t
    → Keeps (attempted takes) s r t
attempt_keeps untold calls h s r t a = tt
attempt_keeps (stated alone form take w) calls h s r t a =
    under alone _ _ (λ i.
    attempt-takes form take calls s (λ q u c. given alone _ _ (h (forked s) q u c) i) r t a)

-- an attempt by a parser whose calls do what others state
pub attempts_by : {T : Type 0} (calls others : Call T)
    → ((s : State) (r : Result T Fault) (t : State) → calls s r t → others s r t)
    → (s : State) (r : Result (Option T) Fault) (t : State) → Attempts calls s r t
    → Attempts others s r t
attempts_by calls others h s r t k = grind arith

-- an attempt of a value that is taken as it is
pub attempt_takes : {T : Type 0} (value : Taking T) (calls : Call T)
    → TakeEach (λ v. v) value calls
    → (s : State) (r : Result (Option T) Fault) (t : State) → Attempts calls s r t
    → Takes (take_attempt value) s r t
attempt_takes value calls h s (Ok (Some v)) t a =
    attempt-takes (λ v. v) value calls s (λ q u c. h (forked s) q u c) (Ok (Some v)) t a
attempt_takes value calls h s (Ok None) t a =
    attempt-takes (λ v. v) value calls s (λ q u c. h (forked s) q u c) (Ok None) t a
attempt_takes value calls h s (Err e) t a =
    attempt-takes (λ v. v) value calls s (λ q u c. h (forked s) q u c) (Err e) t a
