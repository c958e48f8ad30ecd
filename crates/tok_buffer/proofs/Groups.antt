-- A group in front: its content, and the place after.
use Rattle.std.proofs.Common.{◌≡◌, ℕ, ◌+◌, ◌≤◌, true, eqb, List, [], ◌∷◌, Some, refl, ap, ap₂}
use Rattle.std.proofs.Common.{sym, ◌∙◌, arith, eq-eqb}
use Rattle.std.proofs.lemmas.Bool.{or_left}
use Rattle.tok_leaves.specs.declared.span.Span.{Span}
use Rattle.tok_lexical.specs.declared.delimiter.Delimiter.{Delimiter}
use Rattle.tok_core.specs.Forest.{leaf, group, Forest, no_trees, tree}
use Rattle.tok_core.specs.Weight.{weight}
use Rattle.tok_buffer.specs.Entry.{enter_any}
use Rattle.tok_buffer.specs.Place.{in_group, Frame, frame, Place, at, settled}
use Rattle.tok_buffer.specs.Moves.{frame_ahead, frame_passed, frame_enclosing, frames_at}
use Rattle.tok_buffer.specs.Moves.{frames_in_scope, end_of, place_at, in_scope, settled_at}
use Rattle.tok_buffer.specs.Private.Layout.{entry_here}
use Rattle.tok_buffer.specs.declared.entry.Opening.{Opening as Sort}
use Rattle.tok_buffer.specs.declared.entry.Entry.TheVariants.{Group}
use Rattle.tok_buffer.proofs.Layouts.{not_leaf}
use Rattle.tok_buffer.proofs.Stacks.{frames_next, jump}
use Rattle.tok_buffer.proofs.InScope.{ends_later, root_settled}

-- a frame whose front is this group
abbrev pub Fronts : Frame → Delimiter → Span → Forest → Forest → Type 0
Fronts l d t c f = l ≡ frame (frame_enclosing l) (frame_passed l) (tree (group d c t) f)

pub group_front : (l : Frame) (g : Sort) (k : ℕ) → entry_here l ≡ Group g k → (c : Forest)
    × (f : Forest) × (Fronts l g.delimiter g.span c f × (k ≡ weight c + 1))
group_front (frame o p no_trees) g k e = cc
group_front (frame o p (tree (leaf i) f)) g k e = absurd (not_leaf (Group g k) i refl e)
group_front (frame o p (tree (group d c t) f)) g k e =
    let G : Sort = record { delimiter = d; span = t } in
    let h : G ≡ g = cc in
    let q : weight c + 1 ≡ k = cc in
    (c, f, (rw (← h), sym q))

-- the group that an entry holds, with the distance m to its end
module _ (F : Forest) (n s : ℕ) (g : Sort) (m : ℕ) (h : in_scope F n s ≡ true)
    (e : entry_here (frames_at F n).0 ≡ Group g m) where
  -- the frame at the group
  abbrev here : Frame
  here = (frames_at F n).0

  -- the frames around it
  abbrev around : List Frame
  around = (frames_at F n).1

  -- its contents, what follows it, and that it is in front
  pub held : (c : Forest) × (f : Forest)
      × (Fronts (frames_at F n).0 g.delimiter g.span c f × (m ≡ weight c + 1))
  held = group_front here g m e

  -- the frame inside the group
  abbrev inner : Frame
  inner = frame (in_group g.delimiter g.span) no_trees held.0

  -- the frame around the group, once it is entered
  abbrev outer : Frame
  outer = frame (frame_enclosing here) (frame_passed here) held.1

  -- the frame after the group
  abbrev passed : Frame
  passed =
      frame (frame_enclosing here) (tree (group g.delimiter held.0 g.span) (frame_passed here))
      held.1

  pub held_fits : n + m + 1 ≤ s
  held_fits =
      let here_weight = ap (λ l. weight (frame_ahead l)) held.2.0 in
      omega (arith, held.2.1, here_weight, ends_later (end_of n here) s around h)

  inside : frames_at F (n + 1) ≡ (inner, outer ∷ around)
  inside = cc (frames_next F n, held.2.0)

  after : frames_at F (n + m + 1) ≡ (passed, around)
  after =
      let q : n + m + 1 ≡ n + (2 + weight held.0 + 0) = omega (arith, held.2.1) in
      ap (frames_at F) q
      ∙ jump F (tree (group g.delimiter held.0 g.span) no_trees) n (frame_enclosing here)
      (frame_passed here) held.1 around (ap (λ l. (l, around)) held.2.0)

  ends : eqb (n + 1 + weight held.0) (n + m) ≡ true
  ends = eq-eqb (n + 1 + weight held.0) (n + m) (omega (arith, held.2.1))

  pub held_within : in_scope F (n + 1) (n + m) ≡ true
  held_within = rw inside (or_left (eqb (n + 1 + weight held.0) (n + m)) _ ends)

  no_outer : frames_in_scope (n + 1 + weight held.0) (n + m) (outer ∷ around) ≡ []
  no_outer = rw ends

  pub held_settled : settled_at F (n + 1) (n + m) ≡ true
  held_settled = rw (inside, no_outer) (root_settled inner)

  pub inside_place : (k : ℕ) → place_at k F (n + 1) (n + m)
      ≡ at k (n + 1 + weight held.0) (n + 1) inner []
  inside_place k =
      let q : n + m ≡ n + 1 + weight held.0 = omega (arith, held.2.1) in
      rw (inside, no_outer, q)

  same_end : n + m + 1 + weight held.1 ≡ end_of n here
  same_end = omega (arith, held.2.1, ap (λ l. weight (frame_ahead l)) held.2.0)

  pub held_after : in_scope F (n + m + 1) s ≡ true
  held_after = rw (after, same_end) h

  pub after_place : (k : ℕ) → place_at k F (n + m + 1) s
      ≡ at k s (n + (2 + weight held.0)) passed (frames_in_scope (end_of n here) s around)
  after_place k =
      let q : n + m + 1 ≡ n + (2 + weight held.0) = omega (arith, held.2.1) in
      rw (after, same_end, q)

  pub held_enters : (k : ℕ) (a b : Place) → a ≡ place_at k F (n + 1) (n + m) →
      b ≡ settled (place_at k F (n + m + 1) s) → enter_any (place_at k F n s)
      ≡ Some (record { delimiter = g.delimiter; span = g.span; content = a; after = b })
  held_enters k a b ea eb =
      let us = frames_in_scope (end_of n here) s around in
      ap (λ x. enter_any (at k s n x us)) held.2.0
      ∙ ap₂ (λ y z. Some (record {
        delimiter = g.delimiter;
        span = g.span;
        content = y;
        after = z;
      })) (sym (ea ∙ inside_place k)) (sym (eb ∙ ap settled (after_place k)))
