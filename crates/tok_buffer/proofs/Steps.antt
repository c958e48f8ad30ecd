-- What is next at a count of a scope, by the entry there.
use Rattle.std.proofs.Common.{◌≡◌, ℕ, ◌+◌, ◌≤◌, ◌≢◌, true, List, Some, refl, ap, sym, ◌∙◌, arith}
use Rattle.tok_leaves.specs.Leaves.{Leaf}
use Rattle.tok_core.specs.Forest.{leaf, group, Forest, no_trees, tree}
use Rattle.tok_core.specs.Weight.{weight}
use Rattle.tok_buffer.specs.Place.{Frame, frame, Place, empty_place, at, front}
use Rattle.tok_buffer.specs.Moves.{advance, end_of, frames_at, frames_in_scope, in_scope, place_at}
use Rattle.tok_buffer.specs.Private.Layout.{leaf_entry, entry_here}
use Rattle.tok_buffer.specs.Buffer.{Laid}
use Rattle.tok_buffer.specs.Private.Steps.{ahead_place, beyond, ends_group, inside_front, IsOn}
use Rattle.tok_buffer.specs.declared.ahead.Ahead.{Ahead}
use Rattle.tok_buffer.specs.declared.entry.Opening.{Opening as Sort}
use Rattle.tok_buffer.specs.declared.entry.Entry.TheVariants.{Group, End}
use Rattle.tok_buffer.proofs.Layouts.{same_leaf, not_leaf}
use Rattle.tok_buffer.proofs.InScope.{In, before_scope, outer_seen, place_step}
use Rattle.tok_buffer.proofs.Groups.{held, inside_place, after_place}

leaf_front : (k s n : ℕ) (l : Frame) (us : List Frame) (i : Leaf) → entry_here l ≡ leaf_entry i →
    front (at k s n l us) ≡ Some (leaf i)
leaf_front k s n (frame o p no_trees) us i e = absurd (not_leaf _ i refl (sym e))
leaf_front k s n (frame o p (tree (group d c t) f)) us i e = absurd (not_leaf _ i refl (sym e))
leaf_front k s n (frame o p (tree (leaf j) f)) us i e = ap (λ y. Some (leaf y)) (same_leaf j i e)

leaf_beyond : (p : Place) (i : Leaf) → front p ≡ Some (leaf i) → advance p ≡ beyond p
leaf_beyond empty_place i e = refl
leaf_beyond (at k s n (frame o p no_trees) us) i e = cc
leaf_beyond (at k s n (frame o p (tree (leaf j) f)) us) i e = refl
leaf_beyond (at k s n (frame o p (tree (group d c t) f)) us) i e = cc

end_ends : (k s n : ℕ) (l : Frame) (us : List Frame) (m : ℕ) → In n s (l, us) → n ≢ s →
    entry_here l ≡ End m → ends_group (at k s n l (frames_in_scope (end_of n l) s us)) ≡ true
end_ends k s n (frame o p (tree (leaf i) f)) us m h ne e = absurd (not_leaf (End m) i refl e)
end_ends k s n (frame o p (tree (group d c t) f)) us m h ne e = cc
end_ends k s n (frame o p no_trees) us m h ne e =
    ap (λ z. ends_group (at k s n (frame o p no_trees) z)) (outer_seen n s o p us h ne).2

module _ (k : ℕ) (F : Forest) (n s : ℕ) (h : in_scope F n s ≡ true) where
  pub leaf_found : (i : Leaf) → entry_here (frames_at F n).0 ≡ leaf_entry i →
      front (place_at k F n s) ≡ Some (leaf i)
  leaf_found i e =
      let x = frames_at F n in leaf_front k s n x.0 (frames_in_scope (end_of n x.0) s x.1) i e

  pub leaf_next : (i : Leaf) → n ≢ s → entry_here (frames_at F n).0 ≡ leaf_entry i →
      place_at k F (n + 1) s ≡ beyond (place_at k F n s)
  leaf_next i ne e = (place_step k n s F h ne).1 ∙ leaf_beyond (place_at k F n s) i (leaf_found i e)

  pub end_found : (m : ℕ) → n ≢ s → entry_here (frames_at F n).0 ≡ End m →
      ends_group (place_at k F n s) ≡ true
  end_found m ne e = let x = frames_at F n in end_ends k s n x.0 x.1 m h ne e

  -- a group: its contents c, the entries to its end, and the places in it and after it
  pub group_found : (g : Sort) (m : ℕ) → entry_here (frames_at F n).0 ≡ Group g m →
      (c : Forest) × (m ≡ weight c + 1)
      × (front (place_at k F n s) ≡ Some (group g.delimiter c g.span))
      × (place_at k F (n + 1) (n + m) ≡ inside_front (place_at k F n s))
      × (place_at k F (n + m + 1) s ≡ beyond (place_at k F n s))
  group_found g m e =
      let us = frames_in_scope (end_of n (frames_at F n).0) s (frames_at F n).1 in
      let w = held F n s g m h e in (
        w.0,
        w.2.1,
        ap (λ l. front (at k s n l us)) w.2.0,
        inside_place F n s g m h e k ∙ sym (ap (λ l. inside_front (at k s n l us)) w.2.0),
        after_place F n s g m h e k ∙ sym (ap (λ l. beyond (at k s n l us)) w.2.0),
      )

-- one entry on
module _ (a : Ahead) (before_end : a.position ≡ a.scope → ⊥) where
  pub onward_fits : a.position + 1 ≤ a.scope
  onward_fits =
      omega (arith, before_scope a.buffer.now.forest a.position a.scope a.within, before_end)

  pub onward_within : in_scope a.buffer.now.forest (a.position + 1) a.scope ≡ true
  onward_within = (place_step 0 a.position a.scope a.buffer.now.forest a.within before_end).0

-- where this is ahead
pub ahead_at : (a : Ahead) (b : Laid) (n s : ℕ) → a.buffer.now ≡ b → a.position ≡ n →
    a.scope ≡ s → ahead_place a ≡ place_at b.number b.forest n s
ahead_at a b n s e p q = cc

-- so many entries on
pub on_at : (a b : Ahead) (many : ℕ) (p : Place) → b.buffer.now ≡ a.buffer.now →
    b.position ≡ a.position + many → b.scope ≡ a.scope → a.position + many ≤ a.scope →
    place_at a.buffer.now.number a.buffer.now.forest (a.position + many) a.scope ≡ p →
    IsOn a many p b
on_at a b many p e n s h q = record {
  buffer = e;
  scope = s;
  position = n;
  fits = omega (arith, n, s, h);
  place = ahead_at b a.buffer.now (a.position + many) a.scope e n s ∙ q;
}
