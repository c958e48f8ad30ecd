-- A list of what is read back one by one is read back whole.
use Rattle.std.proofs.Common.{◌≡◌, ◌∙◌, sym, ap, refl, ℕ, ◌<◌, arith, List, [], ◌∷◌, ◌++◌, map}
use Rattle.std.proofs.Common.{length, true, false, Option, Some, None, Ok, Err, ◌⊎◌}
use Rattle.std.proofs.Common.{inl, inr}
use Rattle.std.proofs.lemmas.Bool.{false≢true}
use Rattle.std.proofs.lemmas.List.Elements.{All-head, All-tail}
use Rattle.std.specs.Prelude.{Result}
use Rattle.std.specs.List.{All}
use Rattle.std.specs.Global.{Box}
use Rattle.tok_core.specs.Forest.{Forest, no_trees, concat}
use Rattle.tok_buffer.specs.Place.{Enclosing, Place, is_at_end}
use Rattle.syn_parse.specs.Faults.{IsMemory}
use Rattle.syn_parse.specs.Reads.{Call}
use Rattle.syn_parse.specs.State.{State, moved}
use Rattle.syn_parse.specs.declared.fault.Fault.{Fault}
use Rattle.syn_punctuated.specs.Private.Boxes.{boxed_values}
use Rattle.syn_punctuated.specs.Lists.{values_of, separators_of}
use Rattle.syn_punctuated.specs.Printed.{by_turns}
use Rattle.syn_punctuated.specs.Progress.{progresses}
use Rattle.syn_punctuated.specs.ReadBack.{flat, AreByTurns, IsReadBack, ReadsList, ListsAreReadBack}
use Rattle.syn_punctuated.specs.Turns.{terminated, Turn, turn_value, turn_separator, Chain, Holds}
use Rattle.syn_punctuated.specs.Turns.{Ending, at_end, bare, value_refused, separator_refused}
use Rattle.syn_punctuated.specs.Turns.{value_lost, turn_lost, stuck}
use Rattle.syn_punctuated.specs.declared.punctuated.Punctuated.{Punctuated}

pairs_by_turns : {X Y : Type 0} (pairs : List (X × Y)) (last : Option (Box X))
    → AreByTurns (map (λ pair. pair.0) pairs ++ boxed_values last) (map (λ pair. pair.1) pairs)
pairs_by_turns [] None = tt
pairs_by_turns [] (Some v) = refl
pairs_by_turns (pair ∷ pairs) last = pairs_by_turns pairs last

pub list_by_turns : {X Y : Type 0} (list : Punctuated X Y)
    → AreByTurns (values_of list) (separators_of list)
list_by_turns list = pairs_by_turns list.inner.items list.last

later_progresses : (o : Enclosing) (n s c d : ℕ) (p q f g : Forest) → c < d
    → progresses (flat o n s c p f) (flat o n s d q g) ≡ true
later_progresses o n s c d p q f g l = grind arith

module _ {T P : Type 0} (value_parses : Call T) (value_printed : T → Forest)
    (separator_parses : Call P) (separator_printed : P → Forest) (o : Enclosing) (n s : ℕ) where
  abbrev Reads : Unit {0} → State → Result T Fault → Unit {0} → State → Type 0
  Reads f from r g to = value_parses from r to

  abbrev ahead : List T → List P → Forest
  ahead xs ys = by_turns value_printed separator_printed xs ys

  -- the stream went to the end
  abbrev StandsAtEnd : State → State → Type 0
  StandsAtEnd from to = (d : ℕ) × (q : Forest) × (to ≡ moved (flat o n s d q no_trees) from)

  -- what is left to be read is read to the end, after turns of all of which the answer is made
  abbrev Follows : List (Turn T P (Unit {0})) → List (Turn T P (Unit {0})) → List T → List P → State
      → Result (Punctuated T P) Fault → State → Type 0
  Follows all turns xs ys from r to =
      ((e : Fault) × (r ≡ Err e) × IsMemory e)
      ⊎ ((more : List T) × Holds all more r × (map turn_value turns ++ more ≡ xs)
      × (map turn_separator turns ≡ ys) × StandsAtEnd from to)

  abbrev Good : List T → List P → Type 0
  Good xs ys = AreByTurns xs ys × All (IsReadBack value_parses value_printed) xs
      × All (IsReadBack separator_parses separator_printed) ys

  never : (p q : Place) → p ≡ q → is_at_end q ≡ false → is_at_end p ≡ true → ⊥
  never p q e h k = false≢true (sym (ap is_at_end e ∙ h) ∙ k)

  nothing : (p : Place) (c : ℕ) (f : Forest) → p ≡ flat o n s c f no_trees → is_at_end p ≡ false → ⊥
  nothing p c f e k = false≢true (sym k ∙ ap is_at_end e)

  -- nothing is left
  ends_nothing : (all : List (Turn T P (Unit {0}))) (c : ℕ) (p : Forest) (f : Unit {0})
      (m t : State) (r : Result (Punctuated T P) Fault) → m.place ≡ flat o n s c p no_trees
      → Ending terminated Reads separator_parses f m all r t → Follows all [] [] [] m r t
  ends_nothing all c p f m t r e (at_end i q h) =
      inr ([], h, refl, refl, (c, p, q ∙ ap (λ place. moved place m) e))
  ends_nothing all c p f m t r e (bare v g b i h) = absurd (nothing m.place c p e b.0)
  ends_nothing all c p f m t r e (value_refused k g b q) = absurd (nothing m.place c p e b.0)
  ends_nothing all c p f m t r e (separator_refused v g u k b i h q) =
      absurd (nothing m.place c p e b.0)
  ends_nothing all c p f m t r e (value_lost v g k b i h q) = absurd (nothing m.place c p e b.0)
  ends_nothing all c p f m t r e (turn_lost turn k i q h j) =
      absurd (nothing m.place c p e i.opens.0)
  ends_nothing all c p f m t r e (stuck turn k i q u h j) = absurd (nothing m.place c p e i.opens.0)

  -- a bare value is left
  ends_bare : (all : List (Turn T P (Unit {0}))) (x : T) (c : ℕ) (p : Forest) (f : Unit {0})
      (m t : State) (r : Result (Punctuated T P) Fault)
      → m.place ≡ flat o n s c p (concat (value_printed x) no_trees)
      → IsReadBack value_parses value_printed x
      → Ending terminated Reads separator_parses f m all r t → Follows all [] (x ∷ []) [] m r t
  ends_bare all x c p f m t r e good (at_end i q h) =
      absurd (never m.place _ e (good.some o n s c p no_trees) i)
  ends_bare all x c p f m t r e good (bare v g b i h) =
      let w = good.reads o n s c p no_trees m t (Ok v) e b.1 in inr
      (v ∷ [], h, ap (λ z. z ∷ []) w.0, refl, (w.1.0, w.1.1, w.1.3))
  ends_bare all x c p f m t r e good (value_refused k g b q) =
      inl (k, q, good.reads o n s c p no_trees m t (Err k) e b.1)
  ends_bare all x c p f m t r e good (separator_refused v g u k b i h q) =
      let w = good.reads o n s c p no_trees m u (Ok v) e b.1 in absurd
      (nothing u.place w.1.0 w.1.1 (ap (λ (state : State). state.place) w.1.3) i)
  ends_bare all x c p f m t r e good (value_lost v g k b i h q) = inl (k, q, h)
  ends_bare all x c p f m t r e good (turn_lost turn k i q h j) = inl (k, j, h)
  ends_bare all x c p f m t r e good (stuck turn k i q u h j) =
      let w = good.reads o n s c p no_trees m turn.between (Ok turn.value) e i.opens.1 in absurd
      (nothing turn.between.place w.1.0 w.1.1 (ap (λ (state : State). state.place) w.1.3)
      i.goes_on)

  -- a value and a separator are left, and more after them
  ends_full : (all : List (Turn T P (Unit {0}))) (x : T) (y : P) (xs : List T) (ys : List P) (c : ℕ)
      (p : Forest) (f : Unit {0}) (m t : State) (r : Result (Punctuated T P) Fault)
      → m.place ≡ flat o n s c p (ahead (x ∷ xs) (y ∷ ys))
      → IsReadBack value_parses value_printed x → IsReadBack separator_parses separator_printed y
      → Ending terminated Reads separator_parses f m all r t
      → Follows all [] (x ∷ xs) (y ∷ ys) m r t
  ends_full all x y xs ys c p f m t r e good parts (at_end i q h) =
      absurd (never m.place _ e (good.some o n s c p _) i)
  ends_full all x y xs ys c p f m t r e good parts (bare v g b i h) =
      let w = good.reads o n s c p _ m t (Ok v) e b.1 in absurd
      (never t.place _ (ap (λ (state : State). state.place) w.1.3)
      (parts.some o n s w.1.0 w.1.1 _) i)
  ends_full all x y xs ys c p f m t r e good parts (value_refused k g b q) =
      inl (k, q, good.reads o n s c p _ m t (Err k) e b.1)
  ends_full all x y xs ys c p f m t r e good parts (separator_refused v g u k b i h q) =
      let w = good.reads o n s c p _ m u (Ok v) e b.1 in inl (
        k,
        q,
        parts.reads o n s w.1.0 w.1.1 _ u t (Err k)
            (ap (λ (state : State). state.place) w.1.3) h,
      )
  ends_full all x y xs ys c p f m t r e good parts (value_lost v g k b i h q) = inl (k, q, h)
  ends_full all x y xs ys c p f m t r e good parts (turn_lost turn k i q h j) = inl (k, j, h)
  ends_full all x y xs ys c p f m t r e good parts (stuck turn k i q u h j) =
      let w = good.reads o n s c p _ m turn.between (Ok turn.value) e i.opens.1 in
      let z = parts.reads o n s w.1.0 w.1.1 _ turn.between turn.after (Ok turn.separator)
      (ap (λ (state : State). state.place) w.1.3) i.closes in
      let l : c < z.1.0 = omega (arith, w.1.2, z.1.2) in
      let place : t.place ≡ flat o n s z.1.0 z.1.1 (ahead xs ys) =
      ap (λ (state : State). state.place) (q ∙ z.1.3) in
      absurd (false≢true (sym u.0 ∙ (rw (e, place) (later_progresses o n s c z.1.0 p z.1.1
      (ahead (x ∷ xs) (y ∷ ys)) (ahead xs ys) l))))

  ends : (all : List (Turn T P (Unit {0}))) (xs : List T) (ys : List P) (c : ℕ) (p : Forest)
      (f : Unit {0}) (m t : State) (r : Result (Punctuated T P) Fault)
      → m.place ≡ flat o n s c p (ahead xs ys)
      → Good xs ys → Ending terminated Reads separator_parses f m all r t
      → Follows all [] xs ys m r t
  ends all [] [] c p f m t r e good i = ends_nothing all c p f m t r e i
  ends all [] (y ∷ ys) c p f m t r e good i = absurd good.0
  ends all (x ∷ []) [] c p f m t r e good i =
      ends_bare all x c p f m t r e (All-head (IsReadBack value_parses value_printed) x [] good.1) i
  ends all (x ∷ (z ∷ xs)) [] c p f m t r e good i = absurd (omega (arith, ap length good.0))
  ends all (x ∷ xs) (y ∷ ys) c p f m t r e good i =
      ends_full all x y xs ys c p f m t r e
      (All-head (IsReadBack value_parses value_printed) x xs good.1)
      (All-head (IsReadBack separator_parses separator_printed) y ys good.2) i

  more : (all turns : List (Turn T P (Unit {0}))) (turn : Turn T P (Unit {0})) (x : T) (y : P)
      (xs : List T) (ys : List P) (r : Result (Punctuated T P) Fault) (m t : State) → turn.value ≡ x
      → turn.separator ≡ y
      → ((place : Place) → moved place turn.after ≡ moved place m)
      → Follows all turns xs ys turn.after r t → Follows all (turn ∷ turns) (x ∷ xs) (y ∷ ys) m r t
  more all turns turn x y xs ys r m t v w same (inl k) = inl k
  more all turns turn x y xs ys r m t v w same (inr k) =
      inr (
        k.0,
        k.1,
        rw v (ap (λ zs. x ∷ zs) k.2),
        rw w (ap (λ zs. y ∷ zs) k.3),
        (k.4.0, k.4.1, k.4.2 ∙ same _),
      )

  from_there : (all : List (Turn T P (Unit {0}))) (xs : List T) (ys : List P)
      (r : Result (Punctuated T P) Fault) (m l t : State) → m ≡ l → Follows all [] xs ys l r t
      → Follows all [] xs ys m r t
  from_there all xs ys r m l t e h = rw e h

  follow : (all turns : List (Turn T P (Unit {0}))) (xs : List T) (ys : List P) (c : ℕ) (p : Forest)
      (f g : Unit {0}) (m l t : State) (r : Result (Punctuated T P) Fault)
      → m.place ≡ flat o n s c p (ahead xs ys)
      → Good xs ys → Chain terminated Reads separator_parses f m turns g l
      → Ending terminated Reads separator_parses g l all r t → Follows all turns xs ys m r t
  follow all [] xs ys c p f g m l t r e good chain i =
      from_there all xs ys r m l t chain.1
      (ends all xs ys c p g l t r (sym (ap (λ (state : State). state.place) chain.1) ∙ e) good i)
  follow all (turn ∷ turns) [] [] c p f g m l t r e good chain i =
      absurd (nothing m.place c p e chain.0.opens.0)
  follow all (turn ∷ turns) [] (y ∷ ys) c p f g m l t r e good chain i = absurd good.0
  follow all (turn ∷ turns) (x ∷ []) [] c p f g m l t r e good chain i =
      let w = (All-head (IsReadBack value_parses value_printed) x [] good.1).reads o n s c p
      no_trees m turn.between (Ok turn.value) e chain.0.opens.1 in
      absurd (nothing turn.between.place w.1.0 w.1.1 (ap (λ (state : State). state.place) w.1.3)
      chain.0.goes_on)
  follow all (turn ∷ turns) (x ∷ (z ∷ xs)) [] c p f g m l t r e good chain i =
      absurd (omega (arith, ap length good.0))
  follow all (turn ∷ turns) (x ∷ xs) (y ∷ ys) c p f g m l t r e good chain i =
      let w = (All-head (IsReadBack value_parses value_printed) x xs good.1).reads o n s c p _ m
      turn.between (Ok turn.value) e chain.0.opens.1 in
      let z = (All-head (IsReadBack separator_parses separator_printed) y ys good.2).reads o n s
      w.1.0 w.1.1 _ turn.between turn.after (Ok turn.separator)
      (ap (λ (state : State). state.place) w.1.3) chain.0.closes in
      more all turns turn x y xs ys r m t w.0 z.0
      (λ place. ap (moved place) z.1.3 ∙ ap (moved place) w.1.3)
      (follow all turns xs ys z.1.0 z.1.1 turn.parser g turn.after l t r
      (ap (λ (state : State). state.place) z.1.3) (
        good.0,
        All-tail (IsReadBack value_parses value_printed) x xs good.1,
        All-tail (IsReadBack separator_parses separator_printed) y ys good.2,
      ) chain.2 i)

  reads_list : (xs : List T) (ys : List P) (turns : List (Turn T P (Unit {0})))
      (r : Result (Punctuated T P) Fault) (m t : State) → Follows turns turns xs ys m r t
      → ReadsList value_parses value_printed separator_parses separator_printed xs ys o n s m r t
  reads_list xs ys turns r m t h = grind arith

pub lists_are_read_back : {T P : Type 0} (value_parses : Call T) (value_printed : T → Forest)
    (separator_parses : Call P) (separator_printed : P → Forest)
    → ListsAreReadBack value_parses value_printed separator_parses separator_printed
lists_are_read_back value_parses value_printed separator_parses separator_printed xs ys turns values
    separators o n s c p from to r e run =
    reads_list value_parses value_printed separator_parses separator_printed o n s xs ys run.turns r
    from to
    (follow value_parses value_printed separator_parses separator_printed o n s run.turns run.turns
    xs ys c p tt run.parser from run.last to r e (turns, values, separators) run.chain
    run.ending)
