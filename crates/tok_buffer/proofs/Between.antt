-- The trees between two places, move by move.
use Rattle.std.proofs.Common.{◌≡◌, ◌∙◌, sym, ap, ap₂, refl, arith, ℕ, ◌+◌, ◌-◌, ◌≤◌, ◌<◌, true}
use Rattle.std.proofs.Common.{List, [], ◌∷◌, Option, Some, None, le-leb, eqb-true, inl, inr}
use Rattle.std.proofs.lemmas.Bool.{and_parts, cases_lt, lt-leb}
use Rattle.std.specs.Prelude.{◌==◌, ◌&&◌, IfOk, Result, Ok, Err}
use Rattle.tok_leaves.specs.declared.span.Span.{Span}
use Rattle.tok_lexical.specs.declared.delimiter.Delimiter.{Delimiter}
use Rattle.tok_lexical.specs.declared.delimiter.Delimiter.TheVariants as delimiter
use Rattle.tok_core.specs.Erase.{erase}
use Rattle.tok_core.specs.Forest.{Tree, leaf, group, Forest, no_trees, tree, concat}
use Rattle.tok_core.specs.Weight.{weight, tree_weight}
use Rattle.tok_core.proofs.Erasures.{erase_concat}
use Rattle.tok_core.proofs.Facts.{concat-none, erase_tree, joined_assoc}
use Rattle.tok_buffer.specs.Between.{first_trees, first_inside, first_in, trees_to, between}
use Rattle.tok_buffer.specs.Between.{Follows, from_here, after_descent, after_tree}
use Rattle.tok_buffer.specs.Cursors.{spot_place}
use Rattle.tok_buffer.specs.Descent.{descend}
use Rattle.tok_buffer.specs.Order.{same_scope}
use Rattle.tok_buffer.specs.Place.{Enclosing, whole, in_group, Frame, frame, Place, empty_place, at}
use Rattle.tok_buffer.specs.Place.{leave_finished, leave_group, pass}
use Rattle.tok_buffer.specs.Reads.{read_tree}
use Rattle.tok_buffer.specs.Trees.{read_visible}
use Rattle.tok_buffer.specs.View.{erased_ahead, erased_in}
use Rattle.tok_buffer.specs.declared.spot.Spot.{Spot}
use Rattle.tok_buffer.proofs.InScope.{before_scope, count_of}
use Rattle.tok_buffer.proofs.View.Erased.{erased-descend, erased-leave_finished}
use Rattle.tok_buffer.proofs.View.Keeps.{IsKept, kept-descend, kept-leave_finished}
use Rattle.tok_buffer.proofs.View.Moves.{IsMoved, moved-pass, read_parts, some_weight}

-- a tree that ends in time, and one that does not
whole_first : (n : ℕ) (t : Tree) (f : Forest) → tree_weight t ≤ n
    → first_trees n (tree t f) ≡ tree t (first_trees (n - tree_weight t) f)
whole_first n t f h = simp (le-leb (tree_weight t) n h)

part_first : (n : ℕ) (t : Tree) (f : Forest) → n < tree_weight t
    → first_trees n (tree t f) ≡ first_inside n t
part_first n t f h = simp (lt-leb (tree_weight t) n h)

mutual
  none_first : (f : Forest) → first_trees 0 f ≡ no_trees
  none_first no_trees = refl
  none_first (tree t f) = part_first 0 t f (some_weight t) ∙ none_inside t

  none_inside : (t : Tree) → first_inside 0 t ≡ no_trees
  none_inside (leaf l) = refl
  none_inside (group d inside span) = none_first inside

all_first : (n : ℕ) (f : Forest) → weight f ≤ n → first_trees n f ≡ f
all_first n no_trees h = refl
all_first n (tree t f) h =
    rw (whole_first n t f (omega (arith, h)), all_first (n - tree_weight t) f (omega (arith, h)))

none_in : (ls : List Frame) → first_in 0 ls ≡ no_trees
none_in [] = refl
none_in (frame o p a ∷ ls) =
    let q : 0 - (weight a + 1) ≡ 0 = omega arith in
    rw (q, none_first a, none_in ls)

spent_in : (n : ℕ) (ls : List Frame) → n ≡ 0 → first_in n ls ≡ no_trees
spent_in n ls e = rw e (none_in ls)

-- at the end there are none
pub to_none : (e k s n : ℕ) (l : Frame) (us : List Frame) → e ≤ n
    → trees_to e (at k s n l us) ≡ no_trees
to_none e k s n l us h = spent_in (e - n) (l ∷ us) (omega (arith, h))

-- the front tree, if it ends in time, and those after it
pub to_tree : (e k s n : ℕ) (o : Enclosing) (p : Forest) (t : Tree) (f : Forest) (us : List Frame)
    → n + tree_weight t ≤ e
    → trees_to e (at k s n (frame o p (tree t f)) us)
    ≡ tree t (trees_to e (at k s (n + tree_weight t) (frame o (tree t p) f) us))
to_tree e k s n o p t f us h =
    let q : e - n - tree_weight t ≡ e - (n + tree_weight t) = omega arith in
    let r : e - n - (tree_weight t + weight f + 1) ≡ e - (n + tree_weight t) - (weight f + 1) =
    omega arith in
    rw (whole_first (e - n) t f (omega (arith, h)), q, r)

-- a group that ends later is entered
pub to_open : (e k s n : ℕ) (o : Enclosing) (p : Forest) (d : Delimiter) (c : Forest) (t : Span)
    (f : Forest) (us : List Frame) → e < n + (2 + weight c)
    → trees_to e (at k s n (frame o p (tree (group d c t) f)) us)
    ≡ trees_to e (at k s (n + 1) (frame (in_group d t) no_trees c) (frame o p f ∷ us))
to_open e k s n o p d c t f us h =
    let q : e - n - 1 ≡ e - (n + 1) = omega arith in
    let inner = spent_in (e - n - (2 + weight c + weight f + 1)) us (omega (arith, h)) in
    let outer = spent_in (e - (n + 1) - (weight c + 1)) (frame o p f ∷ us) (omega (arith, h)) in
    rw (part_first (e - n) (group d c t) f (omega (arith, h)), q, inner, outer)

first_left : (m : ℕ) (o : Enclosing) (p : Forest) (u : Frame) (us : List Frame)
    → first_in m (leave_group o p u ∷ us) ≡ first_in m (u ∷ us)
first_left m whole p u us = refl
first_left m (in_group d t) p (frame o q g) us = refl

-- a group that ends is left
pub to_close : (e k s n : ℕ) (o : Enclosing) (p : Forest) (u : Frame) (us : List Frame)
    → trees_to e (at k s n (frame o p no_trees) (u ∷ us))
    ≡ trees_to e (at k s (n + 1) (leave_group o p u) us)
to_close e k s n o p u us =
    let q : e - n - (0 + 1) ≡ e - (n + 1) = omega arith in
    rw (q, first_left (e - (n + 1)) o p u us)

-- an invisible group is entered: its trees are visible, whether it ends in time or not
opened : (e k s n : ℕ) (o : Enclosing) (p c : Forest) (t : Span) (f : Forest) (us : List Frame)
    → erase (trees_to e (at k s n (frame o p (tree (group delimiter.None c t) f)) us))
    ≡ erase (trees_to e (at k s (n + 1) (frame (in_group delimiter.None t) no_trees c)
    (frame o p f ∷ us)))
opened e k s n o p c t f us = elim (cases_lt e (n + (2 + weight c))) [
  | inl late ↦ ap erase (to_open e k s n o p delimiter.None c t f us late)
  | inr in_time ↦
      let after = trees_to e
      (at k s (n + (2 + weight c)) (frame o (tree (group delimiter.None c t) p) f) us) in
      let q : e - (n + 1) - (weight c + 1) ≡ e - (n + (2 + weight c)) = omega arith in
      ap erase (to_tree e k s n o p (group delimiter.None c t) f us in_time)
      ∙ sym (erase_concat c after)
      ∙ sym (ap erase (ap₂ concat (all_first (e - (n + 1)) c (omega (arith, in_time)))
      (ap (λ m. first_in m (frame o p f ∷ us)) q)))
]

-- so neither settling nor a descent changes the visible trees
module _ (e : ℕ) (x : Forest) where
  -- the visible trees up to a count are these
  abbrev HasTrees : Place → Type 0
  HasTrees p = erase (trees_to e p) ≡ x

  kept-trees : IsKept HasTrees
  kept-trees = record {
    into = λ k s n o p c t f us h. sym (opened e k s n o p c t f us) ∙ h;
    out = λ k s n o p u us h. sym (ap erase (to_close e k s n o p u us)) ∙ h;
  }

trees-descend : (e : ℕ) (p : Place) → erase (trees_to e (descend p)) ≡ erase (trees_to e p)
trees-descend e p = kept-descend (HasTrees e _) (kept-trees e _) p refl

trees-settled : (e k s n : ℕ) (l : Frame) (us : List Frame)
    → erase (trees_to e (leave_finished k s n l us)) ≡ erase (trees_to e (at k s n l us))
trees-settled e k s n l us = kept-leave_finished (HasTrees e _) (kept-trees e _) k s n l us refl

-- in this buffer and scope, and no earlier
abbrev Later : ℕ → ℕ → ℕ → Place → Type 0
Later k s n empty_place = ⊥
Later k s n (at i t d l us) = (k ≡ i) × (s ≡ t) × (n ≤ d)

moved-later : (k s n : ℕ) → IsMoved (Later k s n)
moved-later k s n = record {
  kept = record {
    into = λ i t d o p c x f us h. (h.0, h.1, omega (arith, h.2));
    out = λ i t d o p u us h. (h.0, h.1, omega (arith, h.2));
  };
  past = λ i t d o p x f us h. (h.0, h.1, omega (arith, h.2));
}

later_count : (k s n : ℕ) (q : Place) → Later k s n q → n ≤ count_of q
later_count k s n empty_place h = absurd h
later_count k s n (at i t d l us) h = h.2

later_follows : (k s n : ℕ) (l : Frame) (us : List Frame) (q : Place) → Follows (at k s n l us) q
    → Later k s n q
later_follows k s n l us q from_here = (refl, refl, omega arith)
later_follows k s n l us q (after_descent r h) =
    kept-descend (Later k s n) (moved-later k s n).kept r (later_follows k s n l us r h)
later_follows k s n l us q (after_tree r h) =
    moved-pass (Later k s n) (moved-later k s n) r (later_follows k s n l us r h)

-- a move takes these visible trees
record Goes (p : Place) (u : Forest) (q : Place) : Type 0 where
  later : count_of p ≤ count_of q
  trees : (e : ℕ) → count_of q ≤ e → erase (trees_to e p) ≡ concat u (erase (trees_to e q))
  ahead : erased_ahead p ≡ concat u (erased_ahead q)

goes_down : (p : Place) → Goes p no_trees (descend p)
goes_down p =
    record {
      later = go p;
      trees = λ e h. sym (trees-descend e p);
      ahead = sym (erased-descend p);
    } where
      go : (q : Place) → count_of q ≤ count_of (descend q)
      go empty_place = omega arith
      go (at k s n l us) =
          later_count k s n _ (kept-descend (Later k s n) (moved-later k s n).kept (at k s n l us)
          (refl, refl, omega arith))

goes_past : (k s n : ℕ) (o : Enclosing) (p : Forest) (t : Tree) (f : Forest) (us : List Frame)
    → Goes (at k s n (frame o p (tree t f)) us) (erase (tree t no_trees))
    (pass (at k s n (frame o p (tree t f)) us))
goes_past k s n o p t f us =
    let m = n + tree_weight t in
    let l = frame o (tree t p) f in
    let far : m ≤ count_of (leave_finished k s m l us) =
    later_count k s m _ (kept-leave_finished (Later k s m) (moved-later k s m).kept k s m l us
    (refl, refl, omega arith)) in
    record {
      later = omega (arith, far);
      trees = λ e h.
          rw (to_tree e k s n o p t f us (omega (arith, h, far)))
          (rw trees-settled (erase_tree t (trees_to e (at k s m l us))));
      ahead =
          rw (erased-leave_finished k s m l us, ← joined_assoc) (ap (λ g. concat g (erased_in us))
          (erase_tree t f));
    }

pub to_here : (p : Place) → trees_to (count_of p) p ≡ no_trees
to_here empty_place = refl
to_here (at k s n l us) = to_none n k s n l us (omega arith)

-- what is taken up to a place, and what is still to be taken
record Splits (p q : Place) : Type 0 where
  trees : (e : ℕ) → count_of q ≤ e
      → erase (trees_to e p) ≡ concat (erase (trees_to (count_of q) p)) (erase (trees_to e q))
  ahead : erased_ahead p ≡ concat (erase (trees_to (count_of q) p)) (erased_ahead q)

splits_here : (p : Place) → Splits p p
splits_here p = record { trees = λ e h. rw (to_here p); ahead = rw (to_here p) }

module _ (p q r : Place) (u : Forest) (so : Splits p q) (move : Goes q u r) where
  taken : erase (trees_to (count_of r) p) ≡ concat (erase (trees_to (count_of q) p)) u
  taken =
      rw (so.trees (count_of r) move.later, move.trees (count_of r) (omega arith))
      (rw (to_here r, concat-none u))

  along : (g h : Forest) → h ≡ concat u g
      → concat (erase (trees_to (count_of q) p)) h ≡ concat (erase (trees_to (count_of r) p)) g
  along g h e = rw (e, taken, joined_assoc)

  then_splits : Splits p r
  then_splits =
      record {
        trees = λ e h.
            so.trees e (omega (arith, move.later, h))
            ∙ along (erase (trees_to e r)) (erase (trees_to e q)) (move.trees e h);
        ahead = so.ahead ∙ along (erased_ahead r) (erased_ahead q) move.ahead;
      }

past_splits : (p q : Place) → Splits p q → Splits p (pass q)
past_splits p empty_place h = h
past_splits p (at k s n (frame o b no_trees) us) h = h
past_splits p (at k s n (frame o b (tree t f)) us) h =
    then_splits p _ _ (erase (tree t no_trees)) h (goes_past k s n o b t f us)

follows_splits : (p q : Place) → Follows p q → Splits p q
follows_splits p q from_here = splits_here p
follows_splits p q (after_descent r h) =
    then_splits p r _ no_trees (follows_splits p r h) (goes_down r)
follows_splits p q (after_tree r h) = past_splits p r (follows_splits p r h)

-- a place that follows is a later one of the same scope
same_and : (k i s t : ℕ) → k ≡ i → s ≡ t → ((k == i) && (s == t)) ≡ true
same_and k i s t e h = grind arith

later_between : (k s n : ℕ) (l : Frame) (us : List Frame) (q : Place) → Later k s n q
    → between (at k s n l us) q ≡ trees_to (count_of q) (at k s n l us)
later_between k s n l us empty_place h = absurd h
later_between k s n l us (at i t d m vs) h = simp (same_and k i s t h.0 h.1)

pub between_is : (p q : Place) → Follows p q → between p q ≡ trees_to (count_of q) p
between_is empty_place empty_place h = refl
between_is empty_place (at i t d m vs) h = refl
between_is (at k s n l us) q h = later_between k s n l us q (later_follows k s n l us q h)

-- where a cursor in the same scope is
abbrev pub cursor_place : Option Spot → Place
cursor_place x = elim x [ None ↦ empty_place | Some s ↦ spot_place s ]

pub ends_in_scope : (from to : Spot) → same_scope (spot_place from) (spot_place to) ≡ true
    → to.position ≤ from.scope
ends_in_scope from to e =
    let p = and_parts (from.buffer.now.number == to.buffer.now.number) (from.scope == to.scope) e in
    let last = before_scope to.buffer.now.forest to.position to.scope to.within in
    omega (arith, eqb-true from.scope to.scope p.1, last)

-- the visible trees between, and then those ahead of the second place
pub visible_between : {E : Type 0} (p q : Place) (r : Result Forest E)
    → IfOk r (λ f. f ≡ between p q)
    → IfOk r (λ f. Follows p q → concat (erase f) (erased_ahead q) ≡ erased_ahead p)
visible_between p q (Ok f) e = λ h.
    rw (e, between_is p q h) (sym (follows_splits p q h).ahead)
visible_between p q (Err x) e = tt

pub between_same : (p : Place) → between p p ≡ no_trees
between_same p = rw (between_is p p from_here) (to_here p)

-- one more visible tree
front_taken : (p d r : Place) (t : Tree) → Splits p d → read_tree d ≡ Some (t ∷ [], r)
    → erase (trees_to (count_of r) p)
    ≡ concat (erase (trees_to (count_of d) p)) (erase (tree t no_trees))
front_taken p empty_place r t h e = absurd (cc)
front_taken p (at k s n (frame o b no_trees) us) r t h e = absurd (cc)
front_taken p (at k s n (frame o b (tree x f)) us) r t h e =
    let d = at k s n (frame o b (tree x f)) us in
    let same = read_parts x t (pass d) r e in
    rw (← same.1, ← same.0)
    (taken p d (pass d) (erase (tree x no_trees)) h (goes_past k s n o b x f us))

pub between_next : (p q r : Place) (t : Tree) → Follows p q → Follows p r
    → read_visible q ≡ Some (t ∷ [], r)
    → erase (between p r) ≡ concat (erase (between p q)) (erase (tree t no_trees))
between_next p q r t h i e =
    let down : erase (trees_to (count_of (descend q)) p) ≡ erase (trees_to (count_of q) p) =
    taken p q (descend q) no_trees (follows_splits p q h) (goes_down q)
    ∙ concat-none (erase (trees_to (count_of q) p)) in
    ap erase (between_is p r i)
    ∙ front_taken p (descend q) r t (follows_splits p (descend q) (after_descent q h)) e
    ∙ ap (λ g. concat g (erase (tree t no_trees))) (down ∙ ap erase (sym (between_is p q h)))
