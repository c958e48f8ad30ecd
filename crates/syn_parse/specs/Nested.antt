-- Values that hold values of their own kind: how they are taken, by what is taken within them.
use Rattle.std.proofs.Common.{◌≡◌, ◌∙◌, ap, refl, arith, ℕ, zero, suc, ◌+◌, ◌*◌, ◌<◌, Bool, []}
use Rattle.tok_lexical.specs.declared.delimiter.Delimiter.{Delimiter}
use Rattle.tok_core.specs.Weight.{weight}
use Rattle.tok_buffer.specs.Progress.{remaining}
use Rattle.syn_parse.specs.Lighter.{group_weighs, lessens_bind, lightens_lower, lowering}
use Rattle.syn_parse.specs.State.{State}
use Rattle.syn_parse.specs.Takes.{Outcome, Taking, found, and_then, ◌>>=◌, where_ahead, refuses}
use Rattle.syn_parse.specs.Takes.{take_group}
use Rattle.syn_parse.specs.Takings.{Lightens, Lowers}
use Rattle.syn_parse.specs.TreesAhead.{Ahead}

-- two parsers take equal values of everything that weighs less than this
abbrev pub SameBelow : {A : Type 0} → ℕ → (m n : Taking A) → Type 0
SameBelow w m n = (b : Ahead) → weight b.trees < w → m b ≡ n b

-- A parser that is made of another one. What it takes depends on what that one takes of less than
-- is ahead; or, with a slack of 1, of no more than is ahead.
pub record Descends (slack : ℕ) {A B : Type 0} (step : Taking A → Taking B) : Type 0 where
  pub light : (m : Taking A) → Lightens m → Lightens (step m)
  pub same : (m n : Taking A) → Lightens m → Lightens n → (a : Ahead)
      → SameBelow (weight a.trees + slack) m n → step m a ≡ step n a

-- the other parser by itself needs a slack of 1
pub descends_self : {A : Type 0} → Descends 1 {A = A} (λ m. m)
descends_self = record { light = λ m l. l; same = λ m n k l a h. h a (omega arith) }

-- a parser that needs no slack may have it
pub descends_less : {A B : Type 0} (step : Taking A → Taking B) → Descends 0 step → Descends 1 step
descends_less step i = grind arith

-- a parser that isn't made of the other one may have any slack
pub descends_same : (slack : ℕ) {A B : Type 0} (take : Taking B) → Lightens take
    → Descends slack {A = A} (λ m. take)
descends_same slack take l = record { light = λ m k. l; same = λ m n k l a h. refl }

-- two ways on from what is found
on_found : {B C : Type 0} (o : Outcome B) (f g : B → Ahead → Outcome C)
    → ((v : B) (b : Ahead) → o ≡ found v b → f v b ≡ g v b) → and_then o f ≡ and_then o g
on_found o f g h = grind arith

-- two parsers in turn need no more slack than each of them
pub descends_bind : (slack : ℕ) {A B C : Type 0} (step : Taking A → Taking B)
    (k : Taking A → B → Taking C) → Descends slack step
    → ((v : B) → Descends slack (λ m. k m v)) → Descends slack (λ m. step m >>= k m)
descends_bind slack step k h g = record {
  light = λ m l. lessens_bind (step m) (k m) (h.light m l) (λ v. (g v).light m l);
  same = λ m n l j a e.
      ap (λ o. and_then o (k m)) (h.same m n l j a e)
      ∙ on_found (step n a) (k m) (k n) (λ v b f. (g v).same m n l j b
      (λ c w. e c (omega (arith, w, (h.light n j).less a b v f))));
}

-- after a token less is ahead
pub descends_after : {A B C : Type 0} (token : Taking B) (k : Taking A → B → Taking C)
    → Lowers token → ((v : B) → Descends 1 (λ m. k m v)) → Descends 0 (λ m. token >>= k m)
descends_after token k h g = record {
  light = λ m l. lessens_bind token (k m) (lightens_lower token h) (λ v. (g v).light m l);
  same = λ m n l j a e.
      on_found (token a) (k m) (k n) (λ v b f. (g v).same m n l j b
      (λ c w. e c (omega (arith, w, h.less a b v f))));
}

-- a choice needs no more slack than each of its branches
pub descends_where : (slack : ℕ) {A B : Type 0} (test : Ahead → Bool) (f g : Taking A → Taking B)
    → Descends slack f → Descends slack g → Descends slack (λ m. where_ahead test (f m) (g m))
descends_where slack test f g h k = grind arith

-- within a group less is ahead
pub descends_group : {A B : Type 0} (d : Delimiter) (inner : Taking A → Taking B)
    → Descends 1 inner → Descends 0 (λ m. take_group d (inner m))
unfolding take_group
descends_group {A} d inner h = grind (arith, group_weighs)

-- with these `search` proves it of what is built of tokens, groups and the parser itself
pub ruleset descending = (
  lowering,
  descends_self,
  descends_less,
  descends_same,
  descends_bind,
  descends_after,
  descends_where,
  descends_group,
)

-- A measure for the functions of a parser that calls itself in groups: each has a rank, and one
-- that calls another on the same stream has the larger rank.
abbrev pub rank : ℕ → State → ℕ
rank n s = 8 * remaining s.place + n

-- values within values, at most so many levels of them
abbrev pub levels : {A : Type 0} → ℕ → (Taking A → Taking A) → Taking A
levels zero step = refuses []
levels (suc n) step = step (levels n step)

-- as many levels as there are
unfoldable pub take_nested : {A : Type 0} → (Taking A → Taking A) → Taking A
take_nested step a = levels (suc (weight a.trees)) step a

module _ {A : Type 0} (step : Taking A → Taking A) (inwards : Descends 0 step) where
  -- no more is ahead after a value of so many levels
  lightens_levels : (n : ℕ) → Lightens (levels n step)
  lightens_levels zero = record { less = λ a b v e. absurd (cc) }
  lightens_levels (suc n) = inwards.light (levels n step) (lightens_levels n)

  -- a nested value adds nothing to what is ahead
  pub lightens_nested : Lightens (take_nested step)
  unfolding take_nested
  lightens_nested = grind (arith, lightens_levels)

  -- more levels than there are change nothing
  enough : (n m : ℕ) (a : Ahead) → weight a.trees < n → weight a.trees < m
      → levels n step a ≡ levels m step a
  enough zero m a h k = absurd (omega arith)
  enough (suc n) zero a h k = absurd (omega arith)
  enough (suc n) (suc m) a h k =
      inwards.same (levels n step) (levels m step) (lightens_levels n) (lightens_levels m) a
      (λ b w. enough n m b (omega (arith, w, h)) (omega (arith, w, k)))

  -- a nested value is a step around nested values
  pub nested_again : (a : Ahead) → take_nested step a ≡ step (take_nested step) a
  unfolding take_nested
  nested_again a = grind (arith, lightens_levels, lightens_nested, enough)

  -- a nested value takes something, if each level does
  pub lowers_nested : ((m : Taking A) → Lightens m → Lowers (step m)) → Lowers (take_nested step)
  unfolding take_nested
  lowers_nested each = grind (arith, lightens_levels)
