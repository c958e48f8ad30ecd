-- What every move keeps: a descent, passing a tree, and so each read.
use Rattle.std.proofs.Common.{◌≡◌, refl, arith, ℕ, ◌+◌, ◌<◌, Bool, cond, List, [], ◌∷◌, ◌++◌}
use Rattle.std.proofs.Common.{Option, Some, None}
use Rattle.std.specs.Prelude.{⊤, IfSome}
use Rattle.tok_core.specs.Forest.{Tree, leaf, group, Forest, no_trees, tree}
use Rattle.tok_core.specs.Weight.{tree_weight}
use Rattle.tok_buffer.specs.Descent.{descend}
use Rattle.tok_buffer.specs.EachRead.{Read, First}
use Rattle.tok_buffer.specs.Place.{Enclosing, Frame, frame, Place, empty_place, at, front, pass}
use Rattle.tok_buffer.specs.Reads.{read_if, read_then, place_after, read_tree, read_lifetime}
use Rattle.tok_buffer.specs.Reads.{any_text, skip}
use Rattle.tok_core.specs.Kinds.{any_tree}
use Rattle.tok_buffer.proofs.View.Keeps.{IsKept, kept-leave_finished}
use Rattle.tok_buffer.proofs.View.Readings.{Reading, one, more, never, of_lifetime}
use Rattle.std.proofs.lemmas.Bool.{cond_both}
use Rattle.std.proofs.lemmas.Option.{some_pair_parts}

-- P holds after the front tree, too
pub record IsMoved (P : Place → Type 0) : Type 0 where
  pub kept : IsKept P
  pub past : (n s c : ℕ) (o : Enclosing) (p : Forest) (t : Tree) (f : Forest) (ls : List Frame)
      → P (at n s c (frame o p (tree t f)) ls)
      → P (at n s (c + tree_weight t) (frame o (tree t p) f) ls)

pub moved-pass : (P : Place → Type 0) → IsMoved P → (p : Place) → P p → P (pass p)
moved-pass P m empty_place h = h
moved-pass P m (at n s c (frame o p no_trees) ls) h = h
moved-pass P m (at n s c (frame o p (tree t f)) ls) h =
    kept-leave_finished P m.kept n s (c + tree_weight t) (frame o (tree t p) f) ls
    (m.past n s c o p t f ls h)

-- a tree counts at least one
pub some_weight : (t : Tree) → 0 < tree_weight t
some_weight (leaf l) = omega arith
some_weight (group d inside span) = omega arith

-- two reads of one tree that are equal
pub read_parts : (t u : Tree) (q r : Place)
    → ◌≡◌ {A = Option (List Tree × Place)} (Some (t ∷ [], q)) (Some (u ∷ [], r))
    → (t ≡ u) × (q ≡ r)
read_parts t u q r e = let (trees, same) = some_pair_parts (t ∷ []) (u ∷ []) q r e in (cc, same)

-- A descent keeps P, and passing a tree leads from P to Q: so each read leads from P to Q.
pub record Leads (P Q : Place → Type 0) : Type 0 where
  pub down : (p : Place) → P p → P (descend p)
  pub past : (p : Place) (t : Tree) → front p ≡ Some t → P p → Q (pass p)
  pub weaker : (p : Place) → Q p → P p

-- Q holds at the place after a read, if something is read
abbrev pub LeadsTo : (Place → Type 0) → Option (List Tree × Place) → Type 0
LeadsTo Q r = IfSome r (λ x. Q x.1)

-- Q holds at the place, if there is one
abbrev pub LeadsAfter : (Place → Type 0) → Option Place → Type 0
LeadsAfter Q r = IfSome r Q

module _ (P Q : Place → Type 0) (m : Leads P Q) where
  pub leads-take : (wanted : Tree → Bool) (p : Place) → P p → LeadsTo Q (read_if wanted p)
  leads-take wanted p h = go (front p) refl where
    go : (o : Option Tree) → front p ≡ o
        → LeadsTo Q (elim o [ Some t ↦ cond (wanted t) (Some (t ∷ [], pass p)) None | None ↦ None ])
    go None e = tt
    go (Some t) e =
        cond_both (wanted t) (Some (t ∷ [], pass p)) None (LeadsTo Q) (λ _. m.past p t e h)
        (λ _. tt)

  leads-leaf : (wanted : Tree → Bool) (p : Place) → P p → LeadsTo Q (read_if wanted (descend p))
  leads-leaf wanted p h = leads-take wanted (descend p) (m.down p h)

  leads-more : (ts : List Tree) (r : Option (List Tree × Place)) → LeadsTo Q r
      → LeadsTo Q (elim r [ Some q ↦ Some (ts ++ q.0, q.1) | None ↦ None ])
  leads-more ts None h = tt
  leads-more ts (Some r) h = h

  leads-then : (r : Option (List Tree × Place)) (g : Place → Option (List Tree × Place))
      → LeadsTo Q r → ((p : Place) → P p → LeadsTo Q (g p)) → LeadsTo Q (read_then r g)
  leads-then None g h k = tt
  leads-then (Some r) g h k = leads-more r.0 (g r.1) (k r.1 (m.weaker r.1 h))

  pub leads : {read : Read} {first : First} → Reading read first → (p : Place) → P p
      → LeadsTo Q (read p)
  leads never p h = tt
  leads (one wanted leaves) p h = leads-leaf wanted p h
  leads (more wanted leaves g f r) p h =
      leads-then (read_if wanted (descend p)) g (leads-leaf wanted p h) (leads r)

  leads-after : (r : Option (List Tree × Place)) → LeadsTo Q r → LeadsAfter Q (place_after r)
  leads-after None h = tt
  leads-after (Some r) h = h

  leads-either : (r : Option (List Tree × Place)) (x : Option Place) → LeadsTo Q r → LeadsAfter Q x
      → LeadsAfter Q (elim r [ Some q ↦ Some q.1 | None ↦ x ])
  leads-either None x h k = k
  leads-either (Some r) x h k = h

  pub leads-skip : (p : Place) → P p → LeadsAfter Q (skip p)
  leads-skip p h =
      leads-either (read_lifetime any_text p) (place_after (read_tree (descend p)))
      (leads (of_lifetime any_text) p h)
      (leads-after (read_tree (descend p)) (leads-take any_tree (descend p) (m.down p h)))

-- nothing is read at the empty place
abbrev pub IsEmpty : Place → Type 0
IsEmpty empty_place = ⊤
IsEmpty (at n s c l ls) = ⊥

-- no place is one
abbrev pub IsNone : Place → Type 0
IsNone p = ⊥

empty-down : (p : Place) → IsEmpty p → IsEmpty (descend p)
empty-down empty_place h = tt
empty-down (at n s c l ls) h = absurd h

empty-past : (p : Place) (t : Tree) → front p ≡ Some t → IsEmpty p → IsNone (pass p)
empty-past empty_place t e h = absurd (cc)
empty-past (at n s c l ls) t e h = h

pub leads-nowhere : Leads IsEmpty IsNone
leads-nowhere = record { down = empty-down; past = empty-past; weaker = λ p h. absurd h }
