-- A run takes the list that its turns are.
use Rattle.std.proofs.Common.{◌≡◌, ◌∙◌, sym, ap, subst, refl, arith, ◌<◌, ◌≤◌, true, false, Bool}
use Rattle.std.proofs.Common.{List, [], ◌∷◌, ◌++◌, append_assoc, append-nil, map, Ok, Err}
use Rattle.std.proofs.lemmas.List.{map-append}
use Rattle.std.specs.Prelude.{Result}
use Rattle.tok_buffer.specs.Progress.{remaining}
use Rattle.syn_parse.proofs.Failing.{fails_on, says_memory, stays_along, stays_here}
use Rattle.syn_parse.proofs.Scopes.{in_one_scope}
use Rattle.syn_parse.specs.Faults.{IsMemory}
use Rattle.syn_parse.specs.Reads.{Call}
use Rattle.syn_parse.specs.State.{State}
use Rattle.syn_parse.specs.TreesAhead.{Ahead, ahead, scope_of}
use Rattle.syn_parse.specs.Takings.{Lightens, Lowers}
use Rattle.syn_parse.specs.Takes.{Stays, TakesAs, Taking, found}
use Rattle.syn_parse.specs.declared.fault.Fault.{Fault}
use Rattle.syn_punctuated.proofs.TakeTurns.{SoFar, all-turns, last-turn, more-turns, no-sign}
use Rattle.syn_punctuated.proofs.TakeTurns.{no-turns}
use Rattle.syn_punctuated.proofs.TakeTurns.{no-value}
use Rattle.syn_punctuated.specs.TakeLists.{list_form, take_list}
use Rattle.syn_punctuated.specs.Turns.{Rule, ValueCall, Turn, turn_value, turn_separator, Chain}
use Rattle.syn_punctuated.specs.Turns.{Holds, IsTurn, IsRun, Ending, at_end, bare, value_refused}
use Rattle.syn_punctuated.specs.Turns.{separator_refused, value_lost, turn_lost, stuck}
use Rattle.syn_punctuated.specs.declared.punctuated.Punctuated.{Punctuated}

-- a rule by two tests of what is ahead
pub record Tells (rule : Rule) (begins goes_on : Ahead → Bool) (Good : State
    → Type 0) : Type 0 where
  pub begins_there : (s : State) → Good s → rule.begins s.place → begins (ahead s) ≡ true
  pub ends_there : (s : State) → Good s → rule.ends s.place → begins (ahead s) ≡ false
  pub goes_on_there : (s : State) → Good s → rule.goes_on s.place → goes_on (ahead s) ≡ true
  pub stops_there : (s : State) → Good s → rule.stops s.place → goes_on (ahead s) ≡ false
  pub stays_good : (s t : State) → Stays s t → Good s → Good t

module _ {T P F A S : Type 0} (rule : Rule) (reads : ValueCall F T) (separates : Call P)
    (begins goes_on : Ahead → Bool) (Good : State → Type 0) (tells : Tells rule begins goes_on Good)
    (form : T → A) (value : Taking A) (lighter : Lightens value)
    (shape : P → S) (sign : Taking S) (lower : Lowers sign)
    (each : (f g : F) (s t : State) (r : Result T Fault) → Good s → reads f s r g t
    → TakesAs form value s r t)
    (signs : (s t : State) (r : Result P Fault) → Good s → separates s r t
    → TakesAs shape sign s r t)
    (less : (s : State) (p : P) (t : State) → separates s (Ok p) t
    → remaining t.place < remaining s.place) where
  abbrev take : Taking (List A × List S)
  take = take_list begins goes_on value sign

  abbrev turns_form : List (Turn T P F) → List A × List S
  turns_form turns = (map form (map turn_value turns), map shape (map turn_separator turns))

  record Taken (start : State) (turns : List (Turn T P F)) (s : State) : Type 0 where
    so_far : SoFar begins goes_on value sign lighter lower (ahead start) (turns_form turns)
        (ahead s)
    stays : Stays start s
    good : Good s

  map-last : {X Y Z : Type 0} (f : X → Y) (g : Y → Z) (xs : List X) (x : X)
      → map g (map f (xs ++ x ∷ [])) ≡ map g (map f xs) ++ g (f x) ∷ []
  map-last f g [] x = refl
  map-last f g (y ∷ xs) x = ap (λ ys. g (f y) ∷ ys) (map-last f g xs x)

  form-last : (turns : List (Turn T P F)) (turn : Turn T P F)
      → turns_form (turns ++ turn ∷ [])
      ≡ (
        (turns_form turns).0 ++ form turn.value ∷ [],
        (turns_form turns).1 ++ shape turn.separator ∷ [],
      )
  form-last turns turn = grind (arith, map-last)

  step : (start : State) (turns : List (Turn T P F)) (f : F) (s : State) (turn : Turn T P F)
      → Taken start turns s → IsTurn rule reads separates f s turn
      → Taken start (turns ++ turn ∷ []) turn.after
  step start turns f s turn so i =
      let v = each f turn.parser s turn.between (Ok turn.value) so.good i.opens.1 in
      let good = tells.stays_good s turn.between v.1 so.good in
      let p = signs turn.between turn.after (Ok turn.separator) good i.closes in
      record {
        so_far =
            subst (λ x. SoFar begins goes_on value sign lighter lower (ahead start) x
            (ahead turn.after))
            (sym (form-last turns turn))
            (more-turns begins goes_on value sign lighter lower (ahead start) (turns_form turns)
            (ahead s)
            (ahead turn.between) (ahead turn.after) (form turn.value) (shape turn.separator)
            so.so_far
            (tells.begins_there s so.good i.opens.0) v.0
            (tells.goes_on_there turn.between good i.goes_on) p.0);
        stays =
            stays_along start turn.between turn.after
            (stays_along start s turn.between so.stays v.1) p.1;
        good = tells.stays_good turn.between turn.after p.1 good;
      }

  chain_takes : (start : State) (turns more : List (Turn T P F)) (f g : F) (s t : State)
      → Chain rule reads separates f s more g t → Taken start turns s
      → Taken start (turns ++ more) t
  chain_takes start turns [] f g s t c so =
      subst (λ x. Taken start x t) (sym (append-nil turns)) (subst (Taken start turns) c.1 so)
  chain_takes start turns (turn ∷ more) f g s t c so =
      subst (λ x. Taken start x t) (append_assoc turns (turn ∷ []) more)
      (chain_takes start (turns ++ turn ∷ []) more turn.parser g turn.after t c.2
      (step start turns f s turn so c.0))

  as-list : (turns : List (Turn T P F)) (more : List T) (list : Punctuated T P)
      → Holds turns more (Ok list)
      → list_form form shape list ≡ ((turns_form turns).0 ++ map form more, (turns_form turns).1)
  as-list turns more list h = grind (arith, map-append)

  memory_fails : (start t : State) (r : Result (Punctuated T P) Fault) (e : Fault) → IsMemory e
      → r ≡ Err e → TakesAs (list_form form shape) take start r t
  memory_fails start t r e m h = grind (arith, says_memory)

  ending_takes : (start : State) (turns : List (Turn T P F)) (f : F) (s t : State)
      (r : Result (Punctuated T P) Fault) → Taken start turns s
      → Ending rule reads separates f s turns r t
      → TakesAs (list_form form shape) take start r t
  ending_takes start turns f s t (Ok list) so (at_end q e h) = (
    all-turns begins goes_on value sign lighter lower (ahead start) (turns_form turns) (ahead s)
        so.so_far
        (tells.ends_there s so.good q)
        ∙ ap (λ x. found x (ahead s)) (sym (as-list turns [] list h))
        ∙ ap (λ (u : State). found (list_form form shape list) (ahead u)) (sym e),
    subst (Stays start) (sym e) so.stays,
  )
  ending_takes start turns f s t (Err x) so (at_end q e h) = absurd h
  ending_takes start turns f s t (Ok list) so (bare v g b q h) =
      let w = each f g s t (Ok v) so.good b.1 in (
        last-turn begins goes_on value sign lighter lower (ahead start) (turns_form turns) (ahead s)
            (ahead t)
            (form v) so.so_far (tells.begins_there s so.good b.0) w.0
            (tells.stops_there t (tells.stays_good s t w.1 so.good) q)
            ∙ ap (λ x. found x (ahead t)) (sym (as-list turns (v ∷ []) list h)),
        stays_along start s t so.stays w.1,
      )
  ending_takes start turns f s t (Err x) so (bare v g b q h) = absurd h
  ending_takes start turns f s t r so (value_refused e g b q) =
      subst (λ x. TakesAs (list_form form shape) take start x t) (sym q)
      (fails_on (value (ahead s)) (take (ahead start))
      (λ x k. no-value begins goes_on value sign lighter lower (ahead start) (turns_form turns)
      (ahead s)
      x so.so_far (tells.begins_there s so.good b.0) k) e start s
      so.stays (each f g s t (Err e) so.good b.1))
  ending_takes start turns f s t r so (separator_refused v g m e b q p h) =
      let w = each f g s m (Ok v) so.good b.1 in
      let good = tells.stays_good s m w.1 so.good in
      subst (λ x. TakesAs (list_form form shape) take start x t) (sym h)
      (fails_on (sign (ahead m)) (take (ahead start))
      (λ x k. no-sign begins goes_on value sign lighter lower (ahead start) (turns_form turns)
      (ahead s)
      (ahead m) (form v) x so.so_far (tells.begins_there s so.good b.0) w.0
      (tells.goes_on_there m good q) k) e start m
      (stays_along start s m so.stays w.1) (signs m t (Err e) good p))
  ending_takes start turns f s t r so (value_lost v g e b q p h) = memory_fails start t r e p h
  ending_takes start turns f s t r so (turn_lost turn e i q p h) = memory_fails start t r e p h
  ending_takes start turns f s t r so (stuck turn e i q n w h) =
      let v = each f turn.parser s turn.between (Ok turn.value) so.good i.opens.1 in
      let good = tells.stays_good s turn.between v.1 so.good in
      let p = signs turn.between turn.after (Ok turn.separator) good i.closes in
      let all = stays_along s turn.between turn.after v.1 p.1 in
      let few = less turn.between turn.separator turn.after i.closes in
      let kept = subst (λ (u : State). remaining s.place ≤ remaining u.place) q
      (n.1 (in_one_scope s.place t.place
      (subst (λ (u : State). scope_of u.place ≡ scope_of s.place) (sym q) all.1))) in
      absurd (omega (arith, kept, few, v.1.2))

  pub run_takes : (f : F) (s t : State) (r : Result (Punctuated T P) Fault) → Good s
      → IsRun rule reads separates f s r t → TakesAs (list_form form shape) take s r t
  run_takes f s t r good i =
      ending_takes s i.turns i.parser i.last t r
      (chain_takes s [] i.turns f i.parser s i.last i.chain
      (record {
        so_far = no-turns begins goes_on value sign lighter lower (ahead s);
        stays = stays_here s;
        good = good;
      })) i.ending
