-- What is taken, with nothing left unread in a group, is exactly what a grammar has: of each way to
-- build a parser.
use Rattle.std.proofs.Common.{◌≡◌, ◌∙◌, sym, ap, subst, refl, arith, ℕ, zero, suc, Bool, true}
use Rattle.std.proofs.Common.{false, cond, List, [], ◌∷◌, Option, None}
use Rattle.std.proofs.lemmas.Bool.{false≢true}
use Rattle.tok_lexical.specs.declared.delimiter.Delimiter.{Delimiter}
use Rattle.tok_leaves.specs.declared.span.DelimSpan.{DelimSpan}
use Rattle.tok_leaves.specs.declared.span.Span.{Span}
use Rattle.tok_core.specs.Forest.{Forest, no_trees}
use Rattle.tok_core.specs.Weight.{weight}
use Rattle.syn_parse.proofs.Shapes.{found_first, found_second, group_taken, takes_group, then_found}
use Rattle.syn_parse.specs.Many.{many_again, many_step, take_many}
use Rattle.syn_parse.specs.Nested.{levels, take_nested}
use Rattle.syn_parse.specs.Optional.{take_optional}
use Rattle.syn_parse.specs.Takes.{Taking, ◌>>=◌, found, gives, refuses, take_group, where_ahead}
use Rattle.syn_parse.specs.Takings.{Lightens, Lowers}
use Rattle.syn_parse.specs.TreesAhead.{Ahead, only_trees, unread_after}
use Rattle.syn_punctuated.proofs.ListShapes.{Turns, bare, done, no_trees_left, takes_list, turn}
use Rattle.syn_punctuated.specs.TakeLists.{always, is_left, take_list, take_separated}
use Rattle.syn_punctuated.specs.TakeLists.{take_terminated, take_turns}
use Rattle.syn_punctuated.specs.Parts.{HasGrammar, InGroup, Many, No, Optional, Part, Separated}
use Rattle.syn_punctuated.specs.Parts.{Terminated, absent, and_more, and_others, and_rest, in_group}
use Rattle.syn_punctuated.specs.Parts.{last_one, no_more, nothing, one, present}

-- what is taken, if nothing is unread after it, is such a part, and nothing was unread before it
pub record Sound {A : Type 0} (take : Taking A) (Is : Part A) : Type 0 where
  pub taken : (a b : Ahead) (v : A) → take a ≡ found v b → b.unread ≡ None
      → (a.unread ≡ None) × Is a.trees v b.trees

-- such a part is taken, and what is after it is left
abbrev pub Written : {A : Type 0} → Part A → Taking A → Type 0
Written {A} Is take =
    (f g : Forest) (v : A) → Is f v g → take (only_trees f) ≡ found v (only_trees g)

-- both
pub record Exactly {A : Type 0} (Is : Part A) (take : Taking A) : Type 0 where
  pub sound : Sound take Is
  pub written : Written Is take

pub exactly : {A : Type 0} {Is : Part A} {take : Taking A} → Sound take Is → Written Is take
    → Exactly Is take
exactly h k = record { sound = h; written = k }

pub takes : {A : Type 0} {Is : Part A} {take : Taking A} {f g : Forest} {v : A} → Exactly Is take
    → Is f v g → take (only_trees f) ≡ found v (only_trees g)
takes {f} {g} {v} h i = h.written f g v i

pub has_grammar : {A : Type 0} {Is : Part A} {take : Taking A} → Exactly Is take
    → HasGrammar take Is
has_grammar h f g v = (
  λ e. (h.sound.taken (only_trees f) (only_trees g) v e refl).1,
  h.written f g v,
)

abbrev pub trees_of : Ahead → Forest
trees_of a = a.trees

abbrev pub unread_of : Ahead → Option Span
unread_of a = a.unread

clean : (a : Ahead) → a.unread ≡ None → only_trees a.trees ≡ a
clean a e = ap (λ u. record { trees = a.trees; unread = u }) (sym e)

-- it is enough that nothing more is unread after what is taken
pub leaves_unread : {A : Type 0} {Is : Part A} {take : Taking A}
    → ((a b : Ahead) (v : A) → take a ≡ found v b → (a.unread ≡ b.unread) × Is a.trees v b.trees)
    → Sound take Is
leaves_unread h = record { taken = λ a b v e u. let t = h a b v e in (t.0 ∙ u, t.1) }

-- The steps of a parser, the last one first: what is found by them is such a part, if it is by the
-- parts that were found.
module _ {A : Type 0} {Is : Part A} where
  pub ends : {v : A} → ((f : Forest) → Is f v f) → Sound (gives v) Is
  ends {v} i = grind (arith, found_second, found_first)

  pub after : {B : Type 0} {P : Part B} {m : Taking B} {k : B → Taking A} → Sound m P
      → ((v : B) → Sound (k v) (λ g w h. (f : Forest) → P f v g → Is f w h)) → Sound (m >>= k) Is
  after {m} {k} h l = record {
    taken = λ a b w e u.
        let t = then_found (m a) k w b e in
        let r = (l t.value).taken t.after b w t.rest u in
        let p = h.taken a t.after t.value t.first r.0 in (p.0, r.1 a.trees p.1);
  }

  pub then : {B : Type 0} {P : Part B} {m : Taking B} {k : B → Taking A} → Exactly P m
      → ((v : B) → Sound (k v) (λ g w h. (f : Forest) → P f v g → Is f w h)) → Sound (m >>= k) Is
  then h l = after h.sound l

  pub either : (test : Ahead → Bool) {m n : Taking A}
      → Sound m (λ f v g. test (only_trees f) ≡ true → Is f v g)
      → Sound n (λ f v g. test (only_trees f) ≡ false → Is f v g) → Sound (where_ahead test m n) Is
  either test {m} {n} h k = record { taken = λ a b v e u. go a b v (test a) refl e u } where
    go : (a b : Ahead) (v : A) (t : Bool) → test a ≡ t → cond t (m a) (n a) ≡ found v b
        → b.unread ≡ None → (a.unread ≡ None) × Is a.trees v b.trees
    go a b v true i e u = let t = h.taken a b v e u in (t.0, t.1 (ap test (clean a t.0) ∙ i))
    go a b v false i e u = let t = k.taken a b v e u in (t.0, t.1 (ap test (clean a t.0) ∙ i))

  pub so : {P : Part A} {m : Taking A} → Exactly P m
      → ((f : Forest) (v : A) (g : Forest) → P f v g → Is f v g) → Sound m Is
  so h i = record {
    taken = λ a b v e u. let t = h.sound.taken a b v e u in (t.0, i a.trees v b.trees t.1);
  }

  pub refused : (words : List ℕ) → Sound (refuses words) Is
  refused words = record { taken = λ a b v e u. absurd (cc) }

-- of values within values it is enough to show it of one level
pub nested_sound : {A : Type 0} {Is : Part A} (step : Taking A → Taking A)
    → ((m : Taking A) → Sound m Is → Sound (step m) Is) → Sound (take_nested step) Is
unfolding take_nested
nested_sound {Is} step each = record {
  taken = λ a b v e u. (below (suc (weight a.trees))).taken a b v e u;
} where
  below : (n : ℕ) → Sound (levels n step) Is
  below zero = refused []
  below (suc n) = each (levels n step) (below n)

-- a test tells whether such a part is next
pub record Tells {A : Type 0} (First : Part A) (test : Ahead → Bool) : Type 0 where
  pub next : (f : Forest) → test (only_trees f) ≡ true → (v : A) × (g : Forest) × First f v g
  pub seen : {f g : Forest} {v : A} → First f v g → test (only_trees f) ≡ true

-- a test is true of the trees that such a part begins with
pub record Begins {A : Type 0} (Is : Part A) (test : Ahead → Bool) : Type 0 where
  pub begins : {f g : Forest} {v : A} → Is f v g → test (only_trees f) ≡ true

-- no token lies unread in what a group's contents leave
nothing_unread : (a left : Ahead) → unread_after a left ≡ None
    → (a.unread ≡ None) × (left.unread ≡ None) × (left.trees ≡ no_trees)
nothing_unread a left e = grind arith

pub group_exactly : {A : Type 0} {Is : Part A} {inner : Taking A} (d : Delimiter)
    → Exactly Is inner → Exactly (InGroup d Is) (take_group d inner)
group_exactly {A} {Is} {inner} d h = exactly (record { taken = all }) go where
  all : (a b : Ahead) (v : DelimSpan × A) → take_group d inner a ≡ found v b → b.unread ≡ None
      → (a.unread ≡ None) × InGroup d Is a.trees v b.trees
  all a b v e u =
      let g = group_taken d inner a b v e in
      let n = nothing_unread a g.left (sym g.unread ∙ u) in
      let i = h.sound.taken (only_trees g.content) g.left v.1 g.inside n.1 in (
        n.0,
        subst (λ f. InGroup d Is f v b.trees) (sym g.trees)
            (in_group (subst (λ f. Is g.content v.1 f) n.2 i.1)),
      )

  go : Written (InGroup d Is) (take_group d inner)
  go _ _ _ (in_group {inside} {f} {span} {v} i) =
      takes_group d inner inside span v (only_trees f) (takes h i)

module _ {A : Type 0} {First : Part A} {test : Ahead → Bool} (t : Tells First test) where
  pub unseen : {f : Forest} → No First f → test (only_trees f) ≡ false
  unseen {f} n = grind arith

  pub not_next : {f : Forest} → test (only_trees f) ≡ false → No First f
  not_next e v g i = false≢true (sym e ∙ t.seen i)

  module _ {B : Type 0} {Is : Part B} {take : Taking B} (h : Exactly Is take)
      (starts : Begins Is test) where
    pub optional_exactly : Exactly (Optional First Is) (take_optional test take)
    unfolding take_optional
    optional_exactly =
        exactly
        (either test (then h (λ v. ends (λ _ _ p i. present p)))
        (ends (λ _ i. absent (not_next i))))
        go where
          go : Written (Optional First Is) (take_optional test take)
          go _ _ _ (absent n) = simp (unseen n) refl
          go _ _ _ (present p) = simp (starts.begins p, takes h p) refl

    pub many_exactly : Lowers take → Exactly (Many First Is) (take_many test take)
    unfolding take_many
    many_exactly low =
        exactly
        (nested_sound (many_step test take) (λ m s. either test
        (then h (λ v. after s (λ vs. ends (λ _ _ r _ p t. and_more p r))))
        (ends (λ _ t. no_more (not_next t)))))
        go where
          go : Written (Many First Is) (take_many test take)
          go _ _ _ (no_more {f} n) = many_again test take low (only_trees f) ∙ simp (unseen n) refl
          go _ _ _ (and_more {f} {g} {h = i} {vs} p m) =
              many_again test take low (only_trees f)
              ∙ simp (starts.begins p, takes h p, go g i vs m) refl

-- a part that takes something begins where something is left
pub begins_left : {A : Type 0} {Is : Part A} {take : Taking A} → Exactly Is take → Lowers take
    → Begins Is is_left
begins_left {A} {Is} h low = grind (arith, takes)

module _ {A P : Type 0} {Is : Part A} {Separates : Part P} {value : Taking A} {sign : Taking P}
    (h : Exactly Is value) (k : Exactly Separates sign) (low : Lowers sign) where
  -- up to the end
  module _ (light : Lightens value) (starts : Begins Is is_left) where
    ended : {f g : Forest} {v : A} → Is f v g → is_left (only_trees g) ≡ false
        → Terminated Is Separates f (v ∷ [], []) g
    ended {f} {g} {v} p e =
        let l = no_trees_left (only_trees g) e in
        subst (λ r. Terminated Is Separates f (v ∷ [], []) r) (sym l)
        (last_one (subst (λ r. Is f v r) l p))

    at_end : (f : Forest) → is_left (only_trees f) ≡ false → Terminated Is Separates f ([], []) f
    at_end f e =
        subst (λ r. Terminated Is Separates r ([], []) r) (sym (no_trees_left (only_trees f) e))
        nothing

    are_terminated : (n : ℕ) → Sound (take_turns n is_left is_left value sign)
        (Terminated Is Separates)
    are_terminated zero = refused []
    are_terminated (suc n) =
        either is_left (then h (λ v. either is_left
        (then k (λ p. after (are_terminated n) (λ r. ends (λ _ _ r _ s _ _ q _. and_rest q s r))))
        (ends (λ _ e _ q _. ended q e)))) (ends at_end)

    to_turns : {f g : Forest} {x : List A × List P} → Terminated Is Separates f x g
        → Turns is_left is_left value sign (only_trees f) x.0 x.1 (only_trees g)
    to_turns nothing = done (only_trees no_trees) refl
    to_turns (last_one {f} {v} p) =
        bare (only_trees f) (only_trees no_trees) v (starts.begins p) (takes h p) refl
    to_turns (and_rest {f} {g} {h = m} {i} {v} {p} {vs} {ps} q s r) =
        turn (only_trees f) (only_trees g) (only_trees m) (only_trees i) v p vs ps (starts.begins q)
        (takes h q) ((begins_left k low).begins s) (takes k s) (to_turns r)

    pub terminated_exactly : Exactly (Terminated Is Separates) (take_terminated value sign)
    unfolding take_list
    terminated_exactly =
        exactly
        (record { taken = λ a b x e u. (are_terminated (suc (weight a.trees))).taken a b x e u })
        go where
          go : Written (Terminated Is Separates) (take_terminated value sign)
          go f g x r =
              takes_list is_left is_left value sign light low (only_trees f) (only_trees g) x.0 x.1
              (to_turns r)

  -- up to where no separator is next
  module _ {test : Ahead → Bool} (t : Tells Separates test) (light : Lightens value) where
    are_separated : (n : ℕ) → Sound (take_turns n always test value sign)
        (Separated Is Separates)
    are_separated zero = refused []
    are_separated (suc n) =
        then h (λ v. either test
        (then k (λ p. after (are_separated n) (λ r. ends (λ _ _ r _ s _ _ q. and_others q s r))))
        (ends (λ _ e _ q. one q (not_next t e))))

    turns_of : {f g : Forest} {x : List A × List P} → Separated Is Separates f x g
        → Turns always test value sign (only_trees f) x.0 x.1 (only_trees g)
    turns_of (one {f} {g} {v} p n) =
        bare (only_trees f) (only_trees g) v refl (takes h p) (unseen t n)
    turns_of (and_others {f} {g} {h = m} {i} {v} {p} {vs} {ps} q s r) =
        turn (only_trees f) (only_trees g) (only_trees m) (only_trees i) v p vs ps refl
        (takes h q) (t.seen s) (takes k s) (turns_of r)

    pub separated_exactly : Exactly (Separated Is Separates) (take_separated test value sign)
    unfolding take_list
    separated_exactly =
        exactly
        (record { taken = λ a b x e u. (are_separated (suc (weight a.trees))).taken a b x e u })
        go where
          go : Written (Separated Is Separates) (take_separated test value sign)
          go f g x r =
              takes_list always test value sign light low (only_trees f) (only_trees g) x.0 x.1
              (turns_of r)
