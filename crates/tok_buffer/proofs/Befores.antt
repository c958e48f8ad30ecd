-- The spans at a count, and what lies before it.
use Rattle.std.proofs.Common.{◌≡◌, inl, inr, ℕ, ◌+◌, ◌<◌, List, [], ◌∷◌, length, refl, ap, sym}
use Rattle.std.proofs.Common.{arith, length-append}
use Rattle.tok_leaves.specs.Leaves.{Leaf, leaf_span}
use Rattle.tok_core.specs.Forest.{leaf, group, Forest, no_trees, tree}
use Rattle.tok_leaves.specs.declared.span.Span.{Span}
use Rattle.tok_leaves.specs.Spans.{closing_span}
use Rattle.tok_core.specs.Weight.{weight}
use Rattle.tok_buffer.specs.Spans.{enclosing_closing, frame_span, current_span, previous_span}
use Rattle.tok_buffer.specs.Place.{whole, in_group, Frame, frame, at}
use Rattle.tok_buffer.specs.Moves.{frame_ahead, frame_enclosing, move, frames_at}
use Rattle.tok_buffer.specs.Private.Layout.{leaf_entry, entries_of, entry_here}
use Rattle.tok_buffer.specs.declared.entry.Opening.{Opening as Sort}
use Rattle.tok_buffer.specs.declared.entry.Entry.TheVariants.{Group, End}
use Rattle.tok_buffer.proofs.Layouts.{same_leaf, not_leaf}
use Rattle.tok_buffer.proofs.Stacks.{At, at_all, nested, last_or, before, after}
use Rattle.tok_buffer.proofs.Stacks.{length-entries_of, frames_next}

-- the span of what lies before in a frame, or at its start the enclosing group's whole span
abbrev pub frame_previous : Frame → Span
frame_previous (frame o (tree (leaf l) p) a) = leaf_span l
frame_previous (frame o (tree (group d inside span) p) a) = closing_span span
frame_previous (frame (in_group d span) no_trees a) = span
frame_previous (frame whole no_trees a) = frame_span (frame whole no_trees a)

pub current_is : (k s n : ℕ) (l : Frame) (us : List Frame) → current_span (at k s n l us)
    ≡ frame_span l
current_is k s n (frame o p (tree t f)) us = refl
current_is k s n (frame whole p no_trees) us = refl
current_is k s n (frame (in_group d t) p no_trees) us = refl

pub previous_is : (k s n : ℕ) (l : Frame) (us : List Frame) → previous_span (at k s n l us)
    ≡ frame_previous l
previous_is k s n (frame o (tree (leaf i) p) a) us = refl
previous_is k s n (frame o (tree (group d c t) p) a) us = refl
previous_is k s n (frame (in_group d t) no_trees a) us = refl
previous_is k s n (frame whole no_trees no_trees) us = refl
previous_is k s n (frame whole no_trees (tree t f)) us = refl

previous_moves : (l : Frame) (us : List Frame) → nested l us →
    0 < weight (frame_ahead l) + length us → frame_previous (move l us).0 ≡ frame_span l
previous_moves (frame o p (tree (leaf i) f)) us h k = refl
previous_moves (frame o p (tree (group d c t) f)) us h k = refl
previous_moves (frame o p no_trees) [] h k = absurd (omega arith)
previous_moves (frame whole p no_trees) (u ∷ us) h k = absurd h
previous_moves (frame (in_group d s) p no_trees) (frame o q g ∷ us) h k = refl

not_last : (E : List _) (w n : ℕ) (l : Frame) (us : List Frame) → length E ≡ w + 1 → n < w →
    At E l us n → 0 < weight (frame_ahead l) + length us
not_last E w n (frame o p f) us he hn (h, hw, hl) =
    elim (last_or o p f us h) [
      | inl k ↦
          let l = length-append (before (frame o p f) us) (after (frame o p f) us) in
          absurd (omega (arith, ap length hw, l))
      | inr k ↦ k
    ]

pub previous_at : (F : Forest) (n : ℕ) → n < weight F → frame_previous (frames_at F (n + 1)).0
    ≡ frame_span (frames_at F n).0
previous_at F n h =
    let x = frames_at F n in
    let a = at_all F n (omega arith) in
    rw (frames_next F n) (previous_moves x.0 x.1 a.0
    (not_last (entries_of F) (weight F) n x.0 x.1 (length-entries_of F) h a))

pub previous_start : (F : Forest) → frame_previous (frames_at F 0).0 ≡ frame_span (frames_at F 0).0
unfolding frames_at
previous_start F = refl

pub end_current : (l : Frame) (k : ℕ) → entry_here l ≡ End k → enclosing_closing (frame_enclosing l)
    ≡ frame_span l
end_current (frame o p no_trees) k e = refl
end_current (frame o p (tree (leaf i) f)) k e = absurd (not_leaf (End k) i refl e)
end_current (frame o p (tree (group d c t) f)) k e = cc

pub leaf_current : (l : Frame) (i : Leaf) → entry_here l ≡ leaf_entry i → leaf_span i ≡ frame_span l
leaf_current (frame o p no_trees) i e = absurd (not_leaf _ i refl (sym e))
leaf_current (frame o p (tree (group d c t) f)) i e = absurd (not_leaf _ i refl (sym e))
leaf_current (frame o p (tree (leaf j) f)) i e = rw (same_leaf j i e)

pub group_current : (l : Frame) (g : Sort) (k : ℕ) → entry_here l ≡ Group g k →
    g.span ≡ frame_span l
group_current (frame o p no_trees) g k e = cc
group_current (frame o p (tree (leaf j) f)) g k e = absurd (not_leaf (Group g k) j refl e)
group_current (frame o p (tree (group d c t) f)) g k e =
    let G : Sort = record { delimiter = d; span = t } in
    let h : G ≡ g = cc in rw (← h)
