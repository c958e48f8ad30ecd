-- What is taken is these trees: of each way to build a parser.
use Rattle.std.proofs.Common.{arith, ◌≡◌, ◌∙◌, sym, ap, refl, ℕ, zero, suc, Bool, true, false, List}
use Rattle.std.proofs.Common.{[], ◌∷◌, ◌++◌, Option, Some, None}
use Rattle.std.specs.Option.{option_or}
use Rattle.tok_lexical.specs.declared.delimiter.Delimiter.{Delimiter}
use Rattle.tok_leaves.specs.declared.span.DelimSpan.{DelimSpan}
use Rattle.tok_leaves.specs.declared.span.Span.{Span}
use Rattle.tok_core.specs.Forest.{Tree, group, Forest, no_trees, tree}
use Rattle.tok_core.specs.Weight.{weight}
use Rattle.tok_buffer.specs.InFront.{first_tree_span}
use Rattle.syn_parse.proofs.Shapes.{Shape, before, forests_join, found_first, found_second}
use Rattle.syn_parse.proofs.Shapes.{group_taken, then_found}
use Rattle.syn_parse.specs.Nested.{levels, take_nested}
use Rattle.syn_parse.specs.Takes.{Taking, ◌>>=◌, found, gives, refuses, refuses_at, take_group}
use Rattle.syn_parse.specs.Takes.{where_ahead}
use Rattle.syn_parse.specs.TreesAhead.{Ahead, all_taken, only_trees, unread_after}

-- what is taken is these trees
pub record Sound {A : Type 0} (take : Taking A) (Is : A → List Tree → Type 0) : Type 0 where
  pub taken : (a b : Ahead) (v : A) → take a ≡ found v b
      → (ts : List Tree) × Is v ts × (a ≡ before ts b)

-- all trees are taken, and are these
pub record SoundToEnd {A : Type 0} (take : Taking A) (Are : A → Forest → Type 0) : Type 0 where
  pub taken : (f : Forest) (b : Ahead) (v : A) → take (only_trees f) ≡ found v b
      → (b ≡ all_taken) × Are v f

-- what a parser of a shape takes is these trees
pub of_shape : {A : Type 0} {Is : A → List Tree → Type 0} {take : Taking A} → Shape Is take
    → Sound take Is
of_shape h = record { taken = h.taken }

-- and all that follows from it
pub implied : {A : Type 0} {P Is : A → List Tree → Type 0} {m : Taking A} → Sound m P
    → ((v : A) (ts : List Tree) → P v ts → Is v ts) → Sound m Is
implied h i = record { taken = λ a b v e. let t = h.taken a b v e in (t.0, i v t.0 t.1, t.2) }

-- The steps of a parser, the last one first: what they take is these trees, if it is by the trees
-- of each step.
module _ {A : Type 0} {Is : A → List Tree → Type 0} where
  -- no step is left, and no tree is taken
  pub ends : {v : A} → Is v [] → Sound (gives v) Is
  ends i = grind (arith, found_first, found_second)

  -- a step, and the steps after it
  pub after : {B : Type 0} {P : B → List Tree → Type 0} {m : Taking B} {k : B → Taking A}
      → Sound m P
      → ((v : B) → Sound (k v) (λ w us. (ts : List Tree) → P v ts → Is w (ts ++ us)))
      → Sound (m >>= k) Is
  after {m} {k} h l = grind (arith, then_found, before, forests_join)

  -- the last step that takes something, and a form of its value
  pub given : {B : Type 0} {P : B → List Tree → Type 0} {m : Taking B} (form : B → A) → Sound m P
      → ((v : B) (ts : List Tree) → P v ts → Is (form v) ts)
      → Sound (m >>= (λ v. gives (form v))) Is
  given {m} form h is = grind (arith, then_found, found_first, before, found_second)

  -- a choice by a test, which is known in each branch
  pub either : (test : Ahead → Bool) {m n : Taking A}
      → Sound m (λ v ts. (b : Ahead) → test (before ts b) ≡ true → Is v ts)
      → Sound n (λ v ts. (b : Ahead) → test (before ts b) ≡ false → Is v ts)
      → Sound (where_ahead test m n) Is
  either test {m} {n} h k = grind (arith, before)

  -- a choice, whatever its test
  pub choice : (test : Ahead → Bool) {m n : Taking A} → Sound m Is → Sound n Is
      → Sound (where_ahead test m n) Is
  choice test h k = either test (implied h (λ v ts i b t. i)) (implied k (λ v ts i b t. i))

  -- an error takes nothing
  pub refused : (words : List ℕ) → Sound (refuses words) Is
  refused words = record { taken = λ a b v e. absurd (cc) }

  pub refused_at : (span : Span) (words : List ℕ) → Sound (refuses_at span words) Is
  refused_at span words = record { taken = λ a b v e. absurd (cc) }

  -- of values within values it is enough to show it of one level
  pub nested_sound : (step : Taking A → Taking A)
      → ((m : Taking A) → Sound m Is → Sound (step m) Is) → Sound (take_nested step) Is
  unfolding take_nested
  nested_sound step each = record {
    taken = λ a b v e. (below (suc (weight a.trees))).taken a b v e;
  } where
    below : (n : ℕ) → Sound (levels n step) Is
    below zero = refused []
    below (suc n) = each (levels n step) (below n)

-- a group of which all the contents are taken
abbrev pub IsGroup : {A : Type 0} → Delimiter → (A → Forest → Type 0) → DelimSpan × A → List Tree
    → Type 0
IsGroup d Inside v ts = (inside : Forest) × (ts ≡ group d inside v.0.join ∷ []) × Inside v.1 inside

-- a group is its contents, taken to the end
pub group_sound : {A : Type 0} {Inside : A → Forest → Type 0} {inner : Taking A} {d : Delimiter}
    → SoundToEnd inner Inside → Sound (take_group d inner) (IsGroup d Inside)
group_sound {inner} {d} h = record {
  taken = λ a b v e.
      let g = group_taken d inner a b v e in
      let k = h.taken g.content g.left v.1 g.inside in
      let unread = g.unread ∙ ap (unread_after a) k.0 ∙ still a.unread in (
        group d g.content v.0.join ∷ [],
        (g.content, refl, k.1),
        ap (λ f. record { trees = f; unread = a.unread }) g.trees
            ∙ ap (λ c. record { trees = tree (group d g.content v.0.join) b.trees; unread = c })
            (sym unread),
      );
} where
  still : (c : Option Span) → option_or c (option_or None (first_tree_span no_trees)) ≡ c
  still None = refl
  still (Some span) = refl
