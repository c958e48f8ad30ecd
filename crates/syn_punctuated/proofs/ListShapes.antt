-- Which lists are taken, in both directions: turn by turn.
use Rattle.std.specs.Prelude.{None}
use Rattle.std.proofs.Common.{◌≡◌, ◌∙◌, ap, subst, refl, arith, ℕ, zero, suc, ◌<◌, Bool, true}
use Rattle.std.proofs.Common.{false, cond}
use Rattle.std.proofs.Common.{List, [], ◌∷◌}
use Rattle.std.proofs.lemmas.Bool.{false≢true}
use Rattle.tok_leaves.specs.declared.punct.Spacing.{Spacing}
use Rattle.tok_leaves.specs.declared.span.Span.{Span}
use Rattle.tok_leaves.specs.Leaves.{punct}
use Rattle.tok_core.specs.Forest.{Tree, leaf, Forest, no_trees, tree, forest, concat}
use Rattle.tok_core.specs.Weight.{weight}
use Rattle.tok_types.specs.declared.punctuation.Punctuation.{Punctuation}
use Rattle.syn_parse.proofs.Shapes.{IsSign, Shape, before, found_first, found_second, sign_ahead}
use Rattle.syn_parse.proofs.TakenTrees.{Sound, SoundToEnd}
use Rattle.syn_parse.specs.Lighter.{lightens_lower, lowers_token}
use Rattle.syn_parse.specs.TreesAhead.{Ahead, all_taken, only_trees}
use Rattle.syn_parse.specs.Takes.{Outcome, Taking, and_then, found, missing}
use Rattle.syn_parse.specs.Takings.{Lightens, Lowers}
use Rattle.syn_parse.specs.Tokens.{punctuation, take_token}
use Rattle.syn_punctuated.specs.TakeLists.{is_left, take_list, take_terminated, take_turns}
use Rattle.tok_core.proofs.Facts.{concat-none}

module _ {A P : Type 0} (begins goes_on : Ahead → Bool) (value : Taking A) (sign : Taking P) where
  -- values and separators in turn, and what is ahead before and after them
  pub data Turns : Ahead → List A → List P → Ahead → Type 0 where
    done : (a : Ahead) → begins a ≡ false → Turns a [] [] a
    bare :
        (a b : Ahead) (v : A) → begins a ≡ true → value a ≡ found v b → goes_on b ≡ false
        → Turns a (v ∷ []) [] b
    turn :
        (a b c d : Ahead) (v : A) (p : P) (vs : List A) (ps : List P) → begins a ≡ true
        → value a ≡ found v b → goes_on b ≡ true → sign b ≡ found p c → Turns c vs ps d
        → Turns a (v ∷ vs) (p ∷ ps) d

  abbrev Both : Type 0
  Both = List A × List P

  abbrev turns : ℕ → Taking Both
  turns n = take_turns n begins goes_on value sign

  abbrev after_sign : ℕ → A → P → Ahead → Outcome Both
  after_sign n v p c = and_then (turns n c) (λ rest d. found (v ∷ rest.0, p ∷ rest.1) d)

  abbrev after_value : ℕ → A → Ahead → Outcome Both
  after_value n v b =
      cond (goes_on b) (and_then (sign b) (λ p c. after_sign n v p c)) (found (v ∷ [], []) b)

  abbrev Is : Ahead → Both → Ahead → Type 0
  Is a x d = Turns a x.0 x.1 d

  of_found : (a b d : Ahead) (x y : Both) → Is a x b → found x b ≡ found y d → Is a y d
  of_found a b d x y t e = grind (arith, found_second, found_first)

  -- what is found is so many turns
  module _ (n : ℕ) (more : (c d : Ahead) (x : Both) → turns n c ≡ found x d → Is c x d)
      (a d : Ahead) (x : Both) (t : begins a ≡ true) where
    at_rest : (v : A) (b : Ahead) (p : P) (c : Ahead) → value a ≡ found v b → goes_on b ≡ true
        → sign b ≡ found p c → (o : Outcome Both) → turns n c ≡ o
        → and_then o (λ rest d. found (v ∷ rest.0, p ∷ rest.1) d) ≡ found x d → Is a x d
    at_rest v b p c h g s (missing m) k e = absurd (cc)
    at_rest v b p c h g s (found r f) k e =
        of_found a f d (v ∷ r.0, p ∷ r.1) x (turn a b c f v p r.0 r.1 t h g s (more c f r k)) e

    at_sign : (v : A) (b : Ahead) → value a ≡ found v b → goes_on b ≡ true → (o : Outcome P)
        → sign b ≡ o → and_then o (λ p c. after_sign n v p c) ≡ found x d → Is a x d
    at_sign v b h g o s e = grind (arith, at_rest)

    at_value : (v : A) (b : Ahead) → value a ≡ found v b → (g : Bool) → goes_on b ≡ g
        → cond g (and_then (sign b) (λ p c. after_sign n v p c)) (found (v ∷ [], []) b) ≡ found x d
        → Is a x d
    at_value v b h true g e = at_sign v b h g (sign b) refl e
    at_value v b h false g e = of_found a b d (v ∷ [], []) x (bare a b v t h g) e

    at_turn : (o : Outcome A) → value a ≡ o → and_then o (after_value n) ≡ found x d → Is a x d
    at_turn o h e = grind (arith, at_value)

  from_begins : (n : ℕ) (more : (c d : Ahead) (x : Both) → turns n c ≡ found x d → Is c x d)
      (a d : Ahead) (x : Both) (t : Bool) → begins a ≡ t
      → cond t (and_then (value a) (after_value n)) (found ([], []) a) ≡ found x d → Is a x d
  from_begins n more a d x false t k = of_found a a d ([], []) x (done a t) k
  from_begins n more a d x true t k = at_turn n more a d x t (value a) refl k

  from_turns : (n : ℕ) (a d : Ahead) (x : Both) → turns n a ≡ found x d → Is a x d
  from_turns zero a d x e = absurd (cc)
  from_turns (suc n) a d x e =
      from_begins n (λ c b y h. from_turns n c b y h) a d x (begins a) refl e

  pub list_taken : (a d : Ahead) (x : Both) → take_list begins goes_on value sign a ≡ found x d
      → Is a x d
  unfolding take_list
  list_taken a d x e = from_turns (suc (weight a.trees)) a d x e

  -- so many turns are found
  module _ (light : Lightens value) (lower : Lowers sign) where
    to_turns : (n : ℕ) (a d : Ahead) (vs : List A) (ps : List P) → weight a.trees < n
        → Turns a vs ps d → turns n a ≡ found (vs, ps) d
    to_turns zero a d vs ps w t = absurd (omega arith)
    to_turns (suc n) _ _ _ _ w (done a e) = grind arith
    to_turns (suc n) _ _ _ _ w (bare a b v e h g) = grind arith
    to_turns (suc n) _ _ _ _ w (turn a b c d v p vs ps e h g s t) =
        let one = light.less a b v h in
        let two = lower.less b c p s in
        ap (λ t. cond t (and_then (value a) (after_value n)) (found ([], []) a)) e
        ∙ ap (λ o. and_then o (after_value n)) h
        ∙ ap (λ t. cond t (and_then (sign b) (λ p c. after_sign n v p c)) (found (v ∷ [], []) b)) g
        ∙ ap (λ o. and_then o (λ p c. after_sign n v p c)) s
        ∙ ap (λ o. and_then o (λ rest d. found (v ∷ rest.0, p ∷ rest.1) d))
        (to_turns n c d vs ps (omega (arith, w, one, two)) t)

    pub takes_list : (a d : Ahead) (vs : List A) (ps : List P) → Turns a vs ps d
        → take_list begins goes_on value sign a ≡ found (vs, ps) d
    unfolding take_list
    takes_list a d vs ps t = to_turns (suc (weight a.trees)) a d vs ps (omega arith) t

-- at the end nothing is left
pub no_trees_left : (a : Ahead) → is_left a ≡ false → a.trees ≡ no_trees
no_trees_left a = grind (arith, false≢true)

pub nothing_left : (a : Ahead) → a.trees ≡ no_trees → a.unread ≡ None → a ≡ all_taken
nothing_left a e c = grind arith

-- Lists to the end, with signs of one character, by a grammar of three clauses: no value; a last
-- value; a value, a sign and more. What is taken is such a list.
module _ {A : Type 0} {k c : ℕ} {Is : A → List Tree → Type 0}
    {Are : Forest → List A → List (Punctuation k 1) → Type 0} {value : Taking A}
    {sign : Taking (Punctuation k 1)} (h : Sound value Is) (s : Sound sign (IsSign c))
    (none : Are no_trees [] [])
    (last : (ts : List Tree) (v : A) → Is v ts → Are (forest ts) (v ∷ []) [])
    (more : (ts : List Tree) (v : A) (spacing : Spacing) (span : Span) (f : Forest) (vs : List A)
    (ps : List (Punctuation k 1)) → Is v ts → Are f vs ps
    → Are (concat (forest ts) (tree (leaf (punct c spacing span)) f)) (v ∷ vs)
    (record { spans = span ∷ [] } ∷ ps)) where
  turns_are : (a d : Ahead) (vs : List A) (ps : List (Punctuation k 1))
      → Turns is_left is_left value sign a vs ps d
      → Are a.trees vs ps × (d.trees ≡ no_trees) × (d.unread ≡ a.unread)
  turns_are _ _ _ _ (done a e) = grind (arith, no_trees_left)
  turns_are _ _ _ _ (bare a b v e i g) = grind (arith, no_trees_left, concat-none)
  turns_are _ _ _ _ (turn a b n d v p vs ps e i g q rest) =
      grind (arith, before, turns_are n d vs ps rest)

  pub list_sound : SoundToEnd (take_terminated value sign) (λ x f. Are f x.0 x.1)
  list_sound = record {
    taken = λ f d x e.
        let a : Ahead = only_trees f in
        let t = turns_are a d x.0 x.1 (list_taken is_left is_left value sign a d x e) in
        (nothing_left d t.1 t.2, t.0);
  }

-- And such a list is taken, if its values are, and each of them takes something.
module _ {A : Type 0} {k c : ℕ} {value : Taking A} (low : Lowers value)
    (s : Shape (IsSign c) (take_token (punctuation k 1))) where
  abbrev sign : Taking (Punctuation k 1)
  sign = take_token (punctuation k 1)

  abbrev pub AllTaken : Forest → List A → List (Punctuation k 1) → Type 0
  AllTaken f vs ps = take_terminated value sign (only_trees f) ≡ found (vs, ps) all_taken

  by_turns : (a : Ahead) (vs : List A) (ps : List (Punctuation k 1))
      → Turns is_left is_left value sign a vs ps all_taken
      → take_terminated value sign a ≡ found (vs, ps) all_taken
  by_turns a vs ps t =
      takes_list is_left is_left value sign (lightens_lower value low)
      (lowers_token (punctuation k 1)) a all_taken vs ps t

  begins : (a b : Ahead) (v : A) → value a ≡ found v b → is_left a ≡ true
  begins a b v e = grind arith

  pub none_taken : AllTaken no_trees [] []
  none_taken = by_turns all_taken [] [] (done all_taken refl)

  pub last_taken : (ts : List Tree) {v : A} → value (before ts all_taken) ≡ found v all_taken
      → AllTaken (forest ts) (v ∷ []) []
  last_taken ts {v} e =
      subst (λ f. AllTaken f (v ∷ []) []) (concat-none (forest ts))
      (by_turns (before ts all_taken) (v ∷ []) []
      (bare (before ts all_taken) all_taken v (begins _ _ v e) e refl))

  pub more_taken : (ts : List Tree) {v : A} {spacing : Spacing} {span : Span} {f : Forest}
      {vs : List A} {ps : List (Punctuation k 1)}
      → value (before ts (only_trees (tree (leaf (punct c spacing span)) f)))
      ≡ found v (only_trees (tree (leaf (punct c spacing span)) f)) → AllTaken f vs ps
      → AllTaken (concat (forest ts) (tree (leaf (punct c spacing span)) f)) (v ∷ vs)
      (record { spans = span ∷ [] } ∷ ps)
  more_taken ts {v} {spacing} {span} {f} {vs} {ps} e l =
      let b = only_trees (tree (leaf (punct c spacing span)) f) in
      by_turns (before ts b) (v ∷ vs) (record { spans = span ∷ [] } ∷ ps)
      (turn (before ts b) b (only_trees f) all_taken v (record { spans = span ∷ [] }) vs ps
      (begins _ _ v e) e refl (sign_ahead s spacing span)
      (list_taken is_left is_left value sign (only_trees f) all_taken (vs, ps) l))
