-- The trees that a run goes past are the tokens of its grammar, and these tokens are gone past.
use Rattle.std.proofs.Common.{◌≡◌, ◌∙◌, sym, ap, refl, arith, ◌<◌, ◌≤◌, ◌+◌, ◌-◌, ◌==◌, ℕ}
use Rattle.std.proofs.Common.{Bool, true, false, ◌&&◌, ◌||◌, cond, Some, None, List}
use Rattle.std.proofs.Common.{[], ◌∷◌, eqb-true, suc, zero}
use Rattle.std.proofs.lemmas.Bool.{false≢true}
use Rattle.std.specs.Prelude.{codes, if◌then◌else◌, option_map, is_some}
use Rattle.tok_core.specs.Filled.{has_trees}
use Rattle.tok_core.specs.Forest.{Tree, Forest, no_trees, tree, concat}
use Rattle.tok_core.proofs.Facts.{concat-none, joined_assoc}
use Rattle.tok_buffer.specs.EachRead.{first_puncts}
use Rattle.tok_types.specs.Sees.{punctuation_first}
use Rattle.syn_parse.specs.Runs.{onwards, passing, take_run_with_state}
use Rattle.syn_parse.specs.Takes.{Outcome, Taking, found, refuses, where_ahead}
use Rattle.syn_parse.specs.TreesAhead.{Ahead}
use Rattle.syn_derive.specs.First.{gt_first}
use Rattle.syn_derive.specs.RunGrammar.{AreTaken, AreTokens, IsEnd, IsExpr, IsType, after_these}
use Rattle.syn_derive.specs.RunGrammar.{angles, nothing, of_all, of_run, one, two}
use Rattle.syn_derive.specs.Runs.{Next, ending, goes_past, is_half, last_after, most_open}
use Rattle.syn_derive.specs.Runs.{closed, next_of}
use Rattle.syn_derive.specs.Runs.{opened, opening, other, pair, past, start, starts_pair}
use Rattle.syn_derive.specs.Runs.{begins, take_expr, take_type, take_until, within}
use Rattle.syn_derive.specs.declared.run.Last.{Last}
use Rattle.syn_derive.specs.declared.run.Last.TheVariants.{Operand, Operator}
use Rattle.syn_derive.specs.declared.run.Passed.{Passed}
use Rattle.syn_derive.specs.declared.run.Until.{Until}
use Rattle.syn_derive.specs.declared.run.Until.TheVariants.{Expr, Params, Ty}

-- the trees of a run, those after it, and the state that it ends in
abbrev Gone : Type 0
Gone = Forest × Forest × Passed

abbrev gone : Passed → Forest → Gone
gone = passing goes_past

-- these trees come first
abbrev first_of : Forest → Gone → Gone
first_of f r = (concat f r.0, r.1, r.2)

abbrev at : Until → ℕ → Last → Passed
at u depth last = record { until = u; depth = depth; last = last }

-- one step
steps : (p : Passed) (f : Forest) (n : Next) → is_half p.last ≡ false
    → next_of (within p) p.last f ≡ n → goes_past p f ≡ past p f n
steps p f n h e = grind arith

goes_on : (p q : Passed) (t : Tree) (f : Forest) → goes_past p (tree t f) ≡ Some q
    → gone p (tree t f) ≡ first_of (tree t no_trees) (gone q f)
goes_on p q t f e = grind arith

stops : (p : Passed) (f : Forest) → goes_past p f ≡ None → gone p f ≡ (no_trees, f, p)
stops p no_trees e = refl
stops p (tree t f) e = ap (λ o. onwards p t f (option_map (λ r. gone r f) o)) e

is_whole : (f : Forest) → is_half (last_after f) ≡ false
is_whole f = grind arith

-- where one more `<` can be counted
can_open : (p : Passed) → (p.depth == most_open) ≡ false
    → opened p ≡ Some (record p { depth = p.depth + 1; last = Operator })
can_open p h = grind arith

-- within `<..>` are parameters, and a `>` closes it
is_within : (d : ℕ) → (d + 1 == 0) ≡ false
is_within d = grind (arith, eqb-true)

steps_within : (u : Until) (d : ℕ) (last : Last) (f : Forest) (n : Next) → is_half last ≡ false
    → next_of Params last f ≡ n
    → goes_past (at u (d + 1) last) f ≡ past (at u (d + 1) last) f n
steps_within u d last f n h e = grind (arith, steps, is_within)

less_one : (d : ℕ) → d + 1 - 1 ≡ d
less_one d = omega arith

closes_with : (u : Until) (d : ℕ) (last : Last) (f : Forest) (b : Bool) → gt_first f ≡ b
    → closed (at u (d + 1) last) f ≡ (if b then Some (at u d Operand) else None)
closes_with u d last f b e = grind (arith, is_within, less_one)

-- A run goes past tokens to those after them, where it ends.
abbrev Arrives : ℕ → Until → Until → Last → Forest → Forest → Type 0
Arrives around u v last more rest =
    (end : Last) × IsEnd v end rest × (is_half end ≡ false)
    × (gone (at u around last) (concat more rest) ≡ first_of more (gone (at u around end) rest))

closes_at : (u : Until) (around : ℕ) (end : Last) (t : Tree) (f : Forest) → is_half end ≡ false
    → IsEnd Params end (tree t f) → gt_first (tree t f) ≡ true
    → gone (at u (around + 1) end) (tree t f)
    ≡ first_of (tree t no_trees) (gone (at u around Operand) f)
closes_at u around end t f h k gt = grind (arith, goes_on, steps_within, closes_with)

passed : (around : ℕ) (u v : Until) (last : Last) (more rest : Forest)
    → AreTokens around v last more rest → within (at u around last) ≡ v → is_half last ≡ false
    → Arrives around u v last more rest
passed around u v last _ rest (nothing _ _ _ _ e) w h = (last, e, h, refl)
passed around u v last _ rest (two _ _ _ s t more _ e more_are) w h =
    let on = passed around u v Operator more rest more_are w refl in
    (on.0, on.1, on.2, grind (arith, goes_on, steps))
passed around u v last _ rest (angles _ _ _ s t inside more _ e room inside_are gt more_are) w h =
    let into = passed (around + 1) u Params Operator inside (tree t (concat more rest)) inside_are
    (grind (arith, is_within)) refl in
    let on = passed around u v Operand more rest more_are w refl in
    (on.0, on.1, on.2, grind (arith, goes_on, steps, can_open, closes_at, joined_assoc))
passed around u v last _ rest (one _ _ _ t more _ e more_are) w h =
    let next = last_after (tree t (concat more rest)) in
    let on = passed around u v next more rest more_are w (is_whole (tree t (concat more rest))) in
    (on.0, on.1, on.2, grind (arith, goes_on, steps))

-- where a run ends it stops
halts : (u : Until) (end : Last) (f : Forest) → is_half end ≡ false → IsEnd u end f
    → gone (at u 0 end) f ≡ (no_trees, f, at u 0 end)
halts u end f h k = grind (arith, stops, steps)

-- these tokens are those of a run
tokens_passed : (u : Until) (last : Last) (more rest : Forest)
    → AreTokens 0 u last more rest → is_half last ≡ false
    → (end : Last) × (gone (at u 0 last) (concat more rest) ≡ (more, rest, at u 0 end))
tokens_passed u last more rest are h =
    let on = passed 0 u u last more rest are refl h in (on.0, grind (arith, halts, concat-none))

-- how many trees there are
abbrev size : Forest → ℕ
size no_trees = 0
size (tree t f) = size f + 1

-- a token of two characters has two trees
no_second : (word : List ℕ) (t : Tree) (a b : ℕ) → word ≡ a ∷ b ∷ []
    → is_some (first_puncts word (tree t no_trees)) ≡ false
no_second word t a b e = grind arith

-- What a run goes past, up to where it ends or is closed; it ends with no `<` open.
record Splits (u v : Until) (d : ℕ) (last : Last) (f : Forest) : Type 0 where
  more : Forest
  rest : Forest
  end : Last
  is_end : IsEnd v end rest
  is_whole : is_half end ≡ false
  all : f ≡ concat more rest
  are : AreTokens d v last more rest
  goes : gone (at u d last) f ≡ first_of more (gone (at u d end) rest)
  less : size rest ≤ size f

abbrev Splitting : ℕ → Type 0
Splitting n =
    (u v : Until) (d : ℕ) (last : Last) (f : Forest) → size f < n → within (at u d last) ≡ v
    → is_half last ≡ false → (gone (at u d last) f).2.depth ≡ 0 → Splits u v d last f

-- where the tokens within `<..>` end, a `>` closes it
record Closes (u : Until) (d : ℕ) (end : Last) (rest : Forest) : Type 0 where
  bracket : Tree
  after : Forest
  all : rest ≡ tree bracket after
  is_gt : gt_first (tree bracket after) ≡ true
  goes : gone (at u (d + 1) end) rest
      ≡ first_of (tree bracket no_trees) (gone (at u d Operand) after)

closes : (u : Until) (d : ℕ) (end : Last) (rest : Forest) → IsEnd Params end rest
    → is_half end ≡ false → (gone (at u (d + 1) end) rest).2.depth ≡ 0 → Closes u d end rest
closes u d end no_trees i h e = absurd (omega (arith, e))
closes u d end (tree t f) (of_run _ k) h e = go (gt_first (tree t f)) refl where
  go : (b : Bool) → gt_first (tree t f) ≡ b → Closes u d end (tree t f)
  go true gt = grind (arith, closes_at, of_run)
  go false gt = grind (arith, stops, steps_within, closes_with)

is_pair : (u : Until) (last : Last) (f : Forest) → next_of u last f ≡ pair
    → starts_pair u last f ≡ true
is_pair u last f h = grind arith

none_of : (a b c d : Bool) → a ≡ false → b ≡ false → d ≡ false → (a || b || (c && d)) ≡ false
none_of a b c d h k l = grind arith

-- a pair is two trees
no_pair : (u : Until) (last : Last) (t : Tree) → next_of u last (tree t no_trees) ≡ pair → ⊥
unfolding punctuation_first
no_pair u last t e = grind (arith, false≢true, none_of, no_second, is_pair)

-- past the first of these trees
module _ (u v : Until) (d : ℕ) (last : Last) (w : within (at u d last) ≡ v)
    (h : is_half last ≡ false) where
  abbrev here : Passed
  here = at u d last

  step : (f : Forest) (n : Next) → next_of v last f ≡ n → goes_past here f ≡ past here f n
  step f n k = grind (arith, steps)

  split_here : (f : Forest) → IsEnd v last f → Splits u v d last f
  split_here f i = record {
    more = no_trees;
    rest = f;
    end = last;
    is_end = i;
    is_whole = h;
    all = refl;
    are = nothing d v last f i;
    goes = refl;
    less = omega arith;
  }

  split_other : (t : Tree) (g : Forest) → next_of v last (tree t g) ≡ other
      → Splits u v d (last_after (tree t g)) g → Splits u v d last (tree t g)
  split_other t g k s = record {
    more = tree t s.more;
    rest = s.rest;
    end = s.end;
    is_end = s.is_end;
    is_whole = s.is_whole;
    all = cc;
    are = grind (arith, one);
    goes = grind (arith, goes_on, step);
    less = omega arith;
  }

  two_steps : (s t : Tree) (g : Forest) → next_of v last (tree s (tree t g)) ≡ pair
      → gone here (tree s (tree t g))
      ≡ first_of (tree s (tree t no_trees)) (gone (at u d Operator) g)
  two_steps s t g k = grind (arith, goes_on, step)

  split_pair : (s t : Tree) (g : Forest) → next_of v last (tree s (tree t g)) ≡ pair
      → Splits u v d Operator g → Splits u v d last (tree s (tree t g))
  split_pair s t g k c = record {
    more = tree s (tree t c.more);
    rest = c.rest;
    end = c.end;
    is_end = c.is_end;
    is_whole = c.is_whole;
    all = cc;
    are = grind (arith, two);
    goes = grind (arith, two_steps);
    less = omega arith;
  }

  -- `<`, what is within, `>` and what comes after it
  module _ (t : Tree) (g : Forest) (k : next_of v last (tree t g) ≡ opening)
      (room : (d == most_open) ≡ false) where
    opens_here : gone here (tree t g)
        ≡ first_of (tree t no_trees) (gone (at u (d + 1) Operator) g)
    opens_here = grind (arith, goes_on, step, can_open)

    abbrev Within : Type 0
    Within = Splits u Params (d + 1) Operator g

    through : (s : Within) (c : Closes u d s.end s.rest)
        → gone here (tree t g)
        ≡ first_of (tree t (concat s.more (tree c.bracket no_trees)))
        (gone (at u d Operand) c.after)
    through s c = grind (arith, opens_here, joined_assoc)

    split_angles : (s : Within) (c : Closes u d s.end s.rest) → Splits u v d Operand c.after
        → Splits u v d last (tree t g)
    split_angles s c r = record {
      more = tree t (concat s.more (tree c.bracket r.more));
      rest = r.rest;
      end = r.end;
      is_end = r.is_end;
      is_whole = r.is_whole;
      all = grind (arith, joined_assoc);
      are = grind (arith, angles);
      goes = grind (arith, through, joined_assoc);
      less = omega (arith, ap size c.all);
    }

split_step : (n : ℕ) → Splitting n → (u v : Until) (d : ℕ) (last : Last) (t : Tree) (g : Forest)
    → size g < n → within (at u d last) ≡ v → is_half last ≡ false
    → (gone (at u d last) (tree t g)).2.depth ≡ 0 → Splits u v d last (tree t g)
split_step n rec u v d last t g small w h e = go (next_of v last (tree t g)) refl where
  in_pair : (f : Forest) → size f < n → next_of v last (tree t f) ≡ pair
      → (gone (at u d last) (tree t f)).2.depth ≡ 0 → Splits u v d last (tree t f)
  in_pair no_trees less k i = absurd (no_pair v last t k)
  in_pair (tree s f) less k i =
      split_pair u v d last w h t s f k
      (rec u v d Operator f (omega arith) w refl (grind (arith, two_steps)))

  in_angles : next_of v last (tree t g) ≡ opening → (b : Bool) → (d == most_open) ≡ b
      → Splits u v d last (tree t g)
  in_angles k false room =
      let s = rec u Params (d + 1) Operator g small (grind (arith, is_within)) refl
      (grind (arith, opens_here)) in
      let c = closes u d s.end s.rest s.is_end s.is_whole (grind (arith, opens_here)) in
      split_angles u v d last w h t g k room s c
      (rec u v d Operand c.after (omega (arith, ap size c.all)) w refl (grind (arith, through)))
  in_angles k true full = absurd (grind (arith, eqb-true, stops, step))

  go : (m : Next) → next_of v last (tree t g) ≡ m → Splits u v d last (tree t g)
  go pair k = in_pair g small k e
  go opening k = in_angles k (d == most_open) refl
  go ending k = split_here u v d last w h (tree t g) (of_run (tree t g) k)
  go other k =
      split_other u v d last w h t g k
      (rec u v d (last_after (tree t g)) g small w (is_whole (tree t g))
      (grind (arith, goes_on, step)))

splits : (n : ℕ) → Splitting n
splits zero u v d last f s w h e = absurd (omega (arith, s))
splits (suc n) u v d last no_trees s w h e = split_here u v d last w h no_trees of_all
splits (suc n) u v d last (tree t g) s w h e =
    split_step n (λ x y m l f. splits n x y m l f) u v d last t g (omega arith) w h e

-- the outcome of a run by the depth of its end
abbrev by_depth : Ahead → Gone → Bool → Outcome Forest
by_depth a r closed =
    let b = record a { trees = r.1 } in
    cond closed (found r.0 b) (refuses (codes "expected `>`") b)

pub run_tokens : (u : Until) → AreTaken (AreTokens 0 u Operator) (take_until u)
unfolding take_until take_run_with_state
run_tokens u = (
  λ a b f e. is a b f (((gone (start u) a.trees).2).depth == 0) refl e,
  λ b f are.
      let t = tokens_passed u Operator f b.trees are refl in grind arith,
) where
  is : (a b : Ahead) (f : Forest) (c : Bool) → ((gone (start u) a.trees).2.depth == 0) ≡ c
      → by_depth a (gone (start u) a.trees) c ≡ found f b
      → AreTokens 0 u Operator f b.trees × (a ≡ after_these f b)
  is a b f false h e = absurd (cc)
  is a b f true h e =
      let s = splits (suc (size a.trees)) u u 0 Operator a.trees (omega arith) refl refl
      (eqb-true _ 0 h) in
      grind (arith, halts, concat-none)

-- a run that must begin has a tree
module _ (u : Until) (words : List ℕ) where
  abbrev Some_are : Forest → Forest → Type 0
  Some_are f rest = AreTokens 0 u Operator f rest × (has_trees f ≡ true)

  abbrev some_run : Taking Forest
  some_run = where_ahead (λ a. begins u a.trees) (take_until u) (refuses words)

  has_first : (f : Forest) → begins u f ≡ true → has_trees (gone (start u) f).0 ≡ true
  has_first f e = grind (arith, goes_on)

  does_begin : (f rest : Forest) → AreTokens 0 u Operator f rest → has_trees f ≡ true
      → begins u (concat f rest) ≡ true
  does_begin f rest are h = grind (arith, stops, tokens_passed)

  pub some_tokens : AreTaken Some_are some_run
  some_tokens = (
    λ a b f e. is a b f (begins u a.trees) refl e,
    λ b f are.
        ap (λ c. cond c (take_until u (after_these f b)) (refuses words (after_these f b)))
        (does_begin f b.trees are.0 are.1)
        ∙ (run_tokens u).1 b f are.0,
  ) where
    is : (a b : Ahead) (f : Forest) (c : Bool) → begins u a.trees ≡ c
        → cond c (take_until u a) (refuses words a) ≡ found f b
        → Some_are f b.trees × (a ≡ after_these f b)
    is a b f false h e = absurd (cc)
    is a b f true h e =
        let r = (run_tokens u).0 a b f e in
        let t = tokens_passed u Operator f b.trees r.0 refl in
        let all = ap (λ (x : Ahead). gone (start u) x.trees) r.1 ∙ t.1 in
        ((r.0, sym (ap (λ (x : Gone). has_trees x.0) all) ∙ has_first a.trees h), r.1)

pub type_tokens : AreTaken IsType take_type
unfolding take_type
type_tokens = some_tokens Ty (codes "expected type")

pub expr_tokens : AreTaken IsExpr take_expr
unfolding take_expr
expr_tokens = some_tokens Expr (codes "expected an expression")
