-- What `retain` asks of its predicate, and what it leaves of a list.
use denote.Param.Members.{Mut}
use denote.Ref.{MutBor}
use Rattle.std.specs.Prelude.{◌≡◌, ◌+◌, ◌-◌, Bool, if◌then◌else◌, List, [], ◌∷◌, ◌++◌, length, map, take}
use Rattle.syn_punctuated.specs.declared.punctuated.Punctuated.{Punctuated}
use Rattle.syn_punctuated.specs.Lists.{values_of, separators_of}

module _ {S X : Type 0} (R : S → X → Bool → S → X → Type 0) where
  -- a run of a predicate over xs in order, each value once, from its state s to t: each call R gave
  -- an answer, and left something of the value
  abbrev pub RunsOver : S → List X → List (Bool × X) → S → Type 0
  RunsOver s [] [] t = s ≡ t
  RunsOver s [] (z ∷ zs) t = ⊥
  RunsOver s (x ∷ xs) [] t = ⊥
  RunsOver s (x ∷ xs) (z ∷ zs) t = (u : S) × R s x z.0 u z.1 × RunsOver u xs zs t

  -- wherever a run over the first values ends, this holds of its state and the next value
  abbrev pub AtEach : (S → X → Type 0) → S → List X → Type 0
  AtEach holds s xs =
      (before : List X) (x : X) (after : List X) (run : List (Bool × X)) (t : S)
      → xs ≡ before ++ x ∷ after → RunsOver s before run t → holds t x

-- a predicate may be called at a value
abbrev pub TakesAtMut : {S X A : Type 0} → Mut S (MutBor X × Unit {0}) A → S → X → Type 0
TakesAtMut {S} {X} calls f x = (lent : MutBor X) → lent.now ≡ x → calls.pre f (lent, tt)

-- the values at which the run returned true, as it left them
abbrev pub kept_values : {X : Type 0} → List (Bool × X) → List X
kept_values [] = []
kept_values (z ∷ zs) = if z.0 then z.1 ∷ kept_values zs else kept_values zs

module _ {X Y : Type 0} where
  -- the separators after the values at which the run returned true
  abbrev pub kept_separators : List (Bool × X) → List Y → List Y
  kept_separators [] ys = []
  kept_separators (z ∷ zs) [] = []
  kept_separators (z ∷ zs) (y ∷ ys) =
      if z.0 then y ∷ kept_separators zs ys else kept_separators zs ys

  -- the pairs of those values, as the run left them, and the separators after them
  abbrev pub kept_pairs : List (Bool × X) → List (X × Y) → List (X × Y)
  kept_pairs [] ps = []
  kept_pairs (z ∷ zs) [] = []
  kept_pairs (z ∷ zs) (p ∷ ps) = if z.0 then (z.1, p.1) ∷ kept_pairs zs ps else kept_pairs zs ps

module _ {S X Y : Type 0} (R : S → X → Bool → S → X → Type 0) where
  -- new is what a run from s to t kept of the pairs old
  abbrev pub RetainsPairs : S → List (X × Y) → List (X × Y) → S → Type 0
  RetainsPairs s old new t =
      (run : List (Bool × X)) × RunsOver R s (map (λ p. p.0) old) run t × (new ≡ kept_pairs run old)

  -- new has the values of old that a run from s kept, each with the separator after it. If old
  -- ended in a bare value, the last value kept is bare too, so the separators are one fewer than
  -- the values.
  pub record Retains (s : S) (old new : Punctuated X Y) : Type 0 where
    pub run : List (Bool × X)
    pub ends : S
    pub runs : RunsOver R s (values_of old) run ends
    pub values : values_of new ≡ kept_values run
    pub trailing : length (values_of old) ≡ length (separators_of old) →
        separators_of new ≡ kept_separators run (separators_of old)
    pub bare : length (values_of old) ≡ length (separators_of old) + 1 →
        separators_of new ≡ take (length (kept_values run) - 1)
        (kept_separators run (separators_of old))
