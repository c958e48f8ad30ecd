-- How a run of a list parser is put together from its turns.
use Rattle.std.proofs.Common.{◌≤◌, ◌<◌, ◌+◌, length, length-append, arith, ◌≡◌, ◌∙◌, sym, ap, refl}
use Rattle.std.proofs.Common.{ℕ, List, [], ◌∷◌, ◌++◌, map, true, Ok, Err, inl, inr}
use Rattle.std.specs.Prelude.{Result, alloc_error}
use Rattle.syn_parse.specs.Faults.{Refuses}
use Rattle.syn_parse.specs.Reads.{Call}
use Rattle.syn_parse.specs.State.{State}
use Rattle.syn_parse.specs.declared.fault.Fault.{Fault}
use Rattle.syn_parse.specs.declared.fault.Fault.TheVariants.{Memory}
use Rattle.syn_punctuated.specs.Private.Pieces.{IsPiece, Keeps}
use Rattle.syn_punctuated.specs.Progress.{MakesNone, progresses}
use Rattle.syn_punctuated.specs.Turns.{Rule, ValueCall, Turn, turn_value, turn_separator, Chain}
use Rattle.syn_punctuated.specs.Turns.{IsTurn, IsRun, bare, value_refused}
use Rattle.syn_punctuated.specs.Turns.{separator_refused, value_lost, turn_lost, stuck, no_progress}
use Rattle.syn_punctuated.specs.declared.parse.Piece.TheVariants.{Bare, Full}
use Rattle.syn_punctuated.specs.declared.punctuated.Punctuated.{Punctuated}

module _ {T P F : Type 0} (rule : Rule) (reads : ValueCall F T) (separates : Call P) where
  -- what has been read so far: full turns, whose values and separators are kept as pairs
  pub record SoFar (f : F) (s : State) (pairs : List (T × P)) (h : F) (m : State) : Type 0 where
    pub turns : List (Turn T P F)
    pub chain : Chain rule reads separates f s turns h m
    pub values : map (λ pair. pair.0) pairs ≡ map turn_value turns
    pub separators : map (λ pair. pair.1) pairs ≡ map turn_separator turns

  chain-snoc : (turns : List (Turn T P F)) (f h : F) (s m : State) (turn : Turn T P F)
      → Chain rule reads separates f s turns h m
      → IsTurn rule reads separates h m turn → progresses m.place turn.after.place ≡ true
      → Chain rule reads separates f s (turns ++ turn ∷ []) turn.parser turn.after
  chain-snoc [] f h s m turn c i p = rw (c.0, c.1) (i, p, (refl, refl))
  chain-snoc (first ∷ turns) f h s m turn c i p =
      (c.0, c.1, chain-snoc turns first.parser h first.after m turn c.2 i p)

  map-snoc : {X Y : Type 0} (g : X → Y) (xs : List X) (x : X)
      → map g (xs ++ x ∷ []) ≡ map g xs ++ g x ∷ []
  map-snoc g [] x = refl
  map-snoc g (y ∷ xs) x = ap (λ ys. g y ∷ ys) (map-snoc g xs x)

  pub so-far-more : (f h g : F) (s m t : State) (pairs more : List (T × P)) (v : T) (p : P)
      → SoFar f s pairs h m
      → IsPiece rule reads separates h m (Ok (Full v p)) g t → progresses m.place t.place ≡ true
      → more ≡ pairs ++ (v, p) ∷ [] → SoFar f s more g t
  so-far-more f h g s m t pairs more v p so i q e =
      let turn : Turn T P F = record {
        value = v;
        between = i.0;
        parser = g;
        separator = p;
        after = t;
      } in
      record {
        turns = so.turns ++ turn ∷ [];
        chain = chain-snoc so.turns f h s m turn so.chain i.1 q;
        values = ap (map (λ (pair : T × P). pair.0)) e
            ∙ (map-snoc (λ (pair : T × P). pair.0) pairs (v, p)
            ∙ (ap (λ xs. xs ++ v ∷ []) so.values ∙ sym (map-snoc turn_value so.turns turn)));
        separators = ap (map (λ (pair : T × P). pair.1)) e
            ∙ (map-snoc (λ (pair : T × P). pair.1) pairs (v, p)
            ∙ (ap (λ xs. xs ++ p ∷ []) so.separators
            ∙ sym (map-snoc turn_separator so.turns turn)));
      }

  pub run-bare : (f h g : F) (s m t : State) (pairs : List (T × P)) (v : T)
      (r : Result (Punctuated T P) Fault) → Keeps pairs v r → SoFar f s pairs h m
      → IsPiece rule reads separates h m (Ok (Bare v)) g t → IsRun rule reads separates f s r t
  run-bare f h g s m t pairs v (Ok list) kept so i = record {
    turns = so.turns;
    parser = h;
    last = m;
    chain = so.chain;
    ending = bare v g i.0 i.1 (kept.0 ∙ ap (λ xs. xs ++ v ∷ []) so.values, kept.1 ∙ so.separators);
  }
  run-bare f h g s m t pairs v (Err e) lost so i = record {
    turns = so.turns;
    parser = h;
    last = m;
    chain = so.chain;
    ending = value_lost v g e i.0 i.1 lost refl;
  }

  pub run-refused : (f h g : F) (s m t : State) (pairs : List (T × P)) (e : Fault)
      (r : Result (Punctuated T P) Fault) → SoFar f s pairs h m
      → IsPiece rule reads separates h m (Err e) g t → r ≡ Err e
      → IsRun rule reads separates f s r t
  run-refused f h g s m t pairs e r so (inl i) q = record {
    turns = so.turns;
    parser = h;
    last = m;
    chain = so.chain;
    ending = value_refused e g i q;
  }
  run-refused f h g s m t pairs e r so (inr i) q = record {
    turns = so.turns;
    parser = h;
    last = m;
    chain = so.chain;
    ending = separator_refused i.0 g i.1 e i.2 i.3 i.4 q;
  }

  pub run-turn_lost : (f h g : F) (s m t : State) (pairs : List (T × P)) (v : T) (p : P)
      (r : Result (Punctuated T P) Fault) → SoFar f s pairs h m
      → IsPiece rule reads separates h m (Ok (Full v p)) g t → r ≡ Err (Memory alloc_error)
      → IsRun rule reads separates f s r t
  run-turn_lost f h g s m t pairs v p r so i q = record {
    turns = so.turns;
    parser = h;
    last = m;
    chain = so.chain;
    ending = turn_lost _ (Memory alloc_error) i.1 refl tt q;
  }

  pub run-stuck : (f h g : F) (s m t : State) (pairs : List (T × P)) (v : T) (p : P) (e : Fault)
      (r : Result (Punctuated T P) Fault) → SoFar f s pairs h m
      → IsPiece rule reads separates h m (Ok (Full v p)) g t → MakesNone m.place t.place
      × Refuses (no_progress t) e → r ≡ Err e → IsRun rule reads separates f s r t
  run-stuck f h g s m t pairs v p e r so i q n = record {
    turns = so.turns;
    parser = h;
    last = m;
    chain = so.chain;
    ending = stuck _ e i.1 refl q.0 q.1 n;
  }

-- one more pair, and fewer chances
pub bounded-more : {X : Type 0} (pairs more : List X) (x : X) (a b n : ℕ) → length pairs + a ≤ n
    → more ≡ pairs ++ x ∷ [] → b < a → length more + b ≤ n
bounded-more pairs more x a b n h e l = rw e (omega (arith, length-append pairs (x ∷ [])))
