-- Trees that are passed whole, and then the rest.
use Rattle.std.proofs.Common.{◌≡◌, sym, ap, subst, refl, arith, ℕ, ◌+◌, ◌≤◌, List, [], ◌∷◌}
use Rattle.std.proofs.Common.{Option, Some, None}
use Rattle.tok_core.specs.Forest.{Tree, Forest, no_trees, tree, concat}
use Rattle.tok_core.specs.Weight.{tree_weight}
use Rattle.tok_core.proofs.Facts.{joined_assoc}
use Rattle.tok_buffer.specs.Between.{Follows, PassedJoin, after_tree, from_here, trees_to}
use Rattle.tok_buffer.specs.Place.{Enclosing, whole, in_group, Frame, frame, Place, empty_place, at}
use Rattle.tok_buffer.specs.Place.{leave_finished, leave_group}
use Rattle.tok_buffer.specs.Reads.{read_tree}
use Rattle.tok_buffer.specs.Rest.{rest, rest_in}
use Rattle.tok_buffer.specs.Trees.{PassesTrees, here, further}
use Rattle.tok_buffer.proofs.Between.{between_is, to_close, to_here, to_tree}
use Rattle.tok_buffer.proofs.InScope.{count_of}

-- settling changes neither the trees up to a count nor the rest, and goes no further back
trees-settled : (e k s n : ℕ) (l : Frame) (us : List Frame)
    → trees_to e (leave_finished k s n l us) ≡ trees_to e (at k s n l us)
trees-settled e k s n l [] = refl
trees-settled e k s n (frame o p no_trees) (u ∷ us) =
    rw (to_close e k s n o p u us) (trees-settled e k s (n + 1) (leave_group o p u) us)
trees-settled e k s n (frame o p (tree t f)) (u ∷ us) = refl

rest-left : (o : Enclosing) (p : Forest) (u : Frame) (us : List Frame)
    → rest_in (leave_group o p u ∷ us) ≡ rest_in (u ∷ us)
rest-left whole p u us = refl
rest-left (in_group d t) p (frame o q g) us = refl

rest-settled : (k s n : ℕ) (l : Frame) (us : List Frame)
    → rest (leave_finished k s n l us) ≡ rest_in (l ∷ us)
rest-settled k s n l [] = refl
rest-settled k s n (frame o p no_trees) (u ∷ us) =
    rw (← rest-left o p u us) (rest-settled k s (n + 1) (leave_group o p u) us)
rest-settled k s n (frame o p (tree t f)) (u ∷ us) = refl

count-settled : (k s n : ℕ) (l : Frame) (us : List Frame) → n ≤ count_of (leave_finished k s n l us)
count-settled k s n l [] = omega arith
count-settled k s n (frame o p no_trees) (u ∷ us) =
    omega (arith, count-settled k s (n + 1) (leave_group o p u) us)
count-settled k s n (frame o p (tree t f)) (u ∷ us) = omega arith

-- the trees up to a place, and then those after it
record Joins (p q : Place) : Type 0 where
  follows : Follows p q
  trees : (e : ℕ) → count_of q ≤ e → trees_to e p ≡ concat (trees_to (count_of q) p) (trees_to e q)
  all : rest p ≡ concat (trees_to (count_of q) p) (rest q)

joins-here : (p : Place) → Joins p p
joins-here p = record { follows = from_here; trees = λ e h. rw (to_here p); all = rw (to_here p) }

module _ (p : Place) (k s n : ℕ) (o : Enclosing) (b : Forest) (t : Tree) (f : Forest)
    (us : List Frame) (so : Joins p (at k s n (frame o b (tree t f)) us)) where
  -- the place after the front tree
  abbrev after : Place
  after = leave_finished k s (n + tree_weight t) (frame o (tree t b) f) us

  far : n + tree_weight t ≤ count_of after
  far = count-settled k s (n + tree_weight t) (frame o (tree t b) f) us

  one : (e : ℕ) → n + tree_weight t ≤ e
      → trees_to e (at k s n (frame o b (tree t f)) us) ≡ tree t (trees_to e after)
  one e h = rw trees-settled (to_tree e k s n o b t f us h)

  taken : trees_to (count_of after) p ≡ concat (trees_to n p) (tree t no_trees)
  taken =
      rw (so.trees (count_of after) (omega (arith, far)), one (count_of after) far, to_here after)

  onwards : (g : Forest) → concat (trees_to n p) (tree t g) ≡ concat (trees_to (count_of after) p) g
  onwards g = rw (taken, joined_assoc)

  joins-past : Joins p after
  joins-past = record {
    follows = after_tree (at k s n (frame o b (tree t f)) us) so.follows;
    trees = λ e h.
        rw (so.trees e (omega (arith, far, h)), one e (omega (arith, far, h)))
        (onwards (trees_to e after));
    all = rw (so.all, ← rest-settled k s (n + tree_weight t) (frame o (tree t b) f) us)
        (onwards (rest after));
  }

joins : (p q : Place) → PassesTrees p q → Joins p q
joins p q here = joins-here p
joins p r (further q z ts h e) = go q (joins p q h) e where
  go : (x : Place) → Joins p x → read_tree x ≡ Some (ts, r) → Joins p r
  go empty_place so i = absurd (cc)
  go (at k s n (frame o b no_trees) us) so i = absurd (cc)
  go (at k s n (frame o b (tree t f)) us) so i =
      subst (Joins p)
      (ap (λ (x : Option (List Tree × Place)). elim x [ Some y ↦ y.1 | None ↦ r ]) i)
      (joins-past p k s n o b t f us so)

pub passed_join : PassedJoin
passed_join p q h =
    let so = joins p q h in
    rw (between_is p q so.follows) (sym so.all)
