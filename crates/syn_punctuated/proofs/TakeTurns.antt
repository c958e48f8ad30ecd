-- Turns that have been taken, and the turns that follow.
use Rattle.std.proofs.Common.{◌≡◌, ◌∙◌, sym, ap, refl, arith, ℕ, zero, suc, ◌<◌, ◌≤◌}
use Rattle.std.proofs.Common.{Bool, true, false, cond, List, [], ◌∷◌, ◌++◌, append_assoc}
use Rattle.std.proofs.Common.{append-nil}
use Rattle.tok_core.specs.Weight.{weight}
use Rattle.syn_parse.specs.TreesAhead.{Ahead}
use Rattle.syn_parse.specs.Takings.{Lightens, Lowers}
use Rattle.syn_parse.specs.Positions.{Missing}
use Rattle.syn_parse.specs.Takes.{Outcome, Taking, found, missing, and_then}
use Rattle.syn_punctuated.specs.TakeLists.{take_list, take_turns}

-- these turns come first
abbrev pub before : {A P : Type 0} → List A × List P → Outcome (List A × List P)
    → Outcome (List A × List P)
before x o = and_then o (λ rest d. found (x.0 ++ rest.0, x.1 ++ rest.1) d)

module _ {A P : Type 0} (begins goes_on : Ahead → Bool) (value : Taking A) (sign : Taking P)
    (lighter : Lightens value) (lower : Lowers sign) where
  abbrev Both : Type 0
  Both = List A × List P

  abbrev take : Taking Both
  take = take_list begins goes_on value sign

  abbrev turns : ℕ → Taking Both
  turns n = take_turns n begins goes_on value sign

  -- what is ahead of the start is these turns, and then what is ahead now
  abbrev pub SoFar : Ahead → Both → Ahead → Type 0
  SoFar s x a = take s ≡ before x (take a)

  abbrev after_sign : ℕ → A → P → Ahead → Outcome Both
  after_sign n v p c = and_then (turns n c) (λ rest d. found (v ∷ rest.0, p ∷ rest.1) d)

  abbrev after_value : ℕ → A → Ahead → Outcome Both
  after_value n v b =
      cond (goes_on b) (and_then (sign b) (λ p c. after_sign n v p c)) (found (v ∷ [], []) b)

  -- more turns than are needed change nothing
  module _ (n m : ℕ) (a : Ahead)
      (same : (c : Ahead) → weight c.trees < weight a.trees → turns n c ≡ turns m c) where
    at-sign : (v : A) (b : Ahead) → weight b.trees ≤ weight a.trees → (o : Outcome P) → sign b ≡ o
        → and_then o (λ p c. after_sign n v p c) ≡ and_then o (λ p c. after_sign m v p c)
    at-sign v b l o e = grind arith

    one-turn : (o : Outcome A) → value a ≡ o
        → cond (begins a) (and_then o (after_value n)) (found ([], []) a)
        ≡ cond (begins a) (and_then o (after_value m)) (found ([], []) a)
    one-turn o e = grind (arith, at-sign)

  enough : (n m : ℕ) (a : Ahead) → weight a.trees < n → weight a.trees < m → turns n a ≡ turns m a
  enough zero m a h k = absurd (omega arith)
  enough (suc n) zero a h k = absurd (omega arith)
  enough (suc n) (suc m) a h k =
      one-turn n m a (λ c l. enough n m c (omega (arith, h, l)) (omega (arith, k, l))) (value a)
      refl

  before-none : (o : Outcome Both) → o ≡ before ([], []) o
  before-none o = grind arith

  pub no-turns : (s : Ahead) → SoFar s ([], []) s
  no-turns s = before-none (take s)

  pub all-turns : (s : Ahead) (x : Both) (a : Ahead) → SoFar s x a → begins a ≡ false
      → take s ≡ found (x.0 ++ [], x.1) a
  unfolding take_list
  all-turns s x a h e =
      h
      ∙ ap (λ b. before x (cond b (and_then (value a) (after_value (weight a.trees)))
      (found ([], []) a)))
      e
      ∙ ap (λ ps. found (x.0 ++ [], ps) a) (append-nil x.1)

  -- a turn begins
  turn_begins : (a b : Ahead) (v : A) → begins a ≡ true → value a ≡ found v b
      → take a ≡ after_value (weight a.trees) v b
  unfolding take_list
  turn_begins a b v e h = grind arith

  pub last-turn : (s : Ahead) (x : Both) (a b : Ahead) (v : A) → SoFar s x a → begins a ≡ true
      → value a ≡ found v b → goes_on b ≡ false → take s ≡ found (x.0 ++ v ∷ [], x.1) b
  last-turn s x a b v h e k m =
      h
      ∙ ap (before x) (turn_begins a b v e k
      ∙ ap
      (λ t. cond t (and_then (sign b) (λ p c. after_sign (weight a.trees) v p c))
      (found (v ∷ [], []) b))
      m)
      ∙ ap (λ ps. found (x.0 ++ v ∷ [], ps) b) (append-nil x.1)

  went : (a b c : Ahead) (v : A) (p : P) → begins a ≡ true → value a ≡ found v b
      → goes_on b ≡ true → sign b ≡ found p c → take a ≡ before (v ∷ [], p ∷ []) (take c)
  unfolding take_list
  went a b c v p e h k m = grind (arith, turn_begins, enough)

  before-before : (x : Both) (v : A) (p : P) (o : Outcome Both)
      → before x (before (v ∷ [], p ∷ []) o) ≡ before (x.0 ++ v ∷ [], x.1 ++ p ∷ []) o
  before-before x v p (missing m) = refl
  before-before x v p (found y d) =
      ap (λ vs. found (vs, x.1 ++ (p ∷ y.1)) d) (sym (append_assoc x.0 (v ∷ []) y.0))
      ∙ ap (λ ps. found ((x.0 ++ v ∷ []) ++ y.0, ps) d) (sym (append_assoc x.1 (p ∷ []) y.1))

  pub more-turns : (s : Ahead) (x : Both) (a b c : Ahead) (v : A) (p : P) → SoFar s x a
      → begins a ≡ true → value a ≡ found v b → goes_on b ≡ true → sign b ≡ found p c
      → SoFar s (x.0 ++ v ∷ [], x.1 ++ p ∷ []) c
  more-turns s x a b c v p h e k m n =
      h ∙ ap (before x) (went a b c v p e k m n) ∙ before-before x v p (take c)

  -- a part that is missing
  pub no-value : (s : Ahead) (x : Both) (a : Ahead) (lack : Missing) → SoFar s x a
      → begins a ≡ true → value a ≡ missing lack → take s ≡ missing lack
  unfolding take_list
  no-value s x a lack h e k = grind arith

  pub no-sign : (s : Ahead) (x : Both) (a b : Ahead) (v : A) (lack : Missing) → SoFar s x a
      → begins a ≡ true → value a ≡ found v b → goes_on b ≡ true → sign b ≡ missing lack
      → take s ≡ missing lack
  no-sign s x a b v lack h e k m n =
      h
      ∙ ap (before x) (turn_begins a b v e k
      ∙ ap
      (λ t. cond t (and_then (sign b) (λ q d. after_sign (weight a.trees) v q d))
      (found (v ∷ [], []) b))
      m
      ∙ ap (λ o. and_then o (λ q d. after_sign (weight a.trees) v q d)) n)
