-- The frames at a count, against the entries.
use Rattle.std.proofs.Common.{◌≡◌, ◌⊎◌, inl, inr, ℕ, zero, suc, ◌+◌, ◌≤◌, ◌<◌, List, [], ◌∷◌}
use Rattle.std.proofs.Common.{◌++◌, length, get_or, refl, ap, sym, ◌∙◌, arith, append_assoc}
use Rattle.std.proofs.Common.{length-append, add-zero, add-one}
use Rattle.std.proofs.lemmas.List.{get_or_at, append-nil}
use Rattle.tok_leaves.specs.declared.span.Span.{Span}
use Rattle.tok_lexical.specs.declared.delimiter.Delimiter.{Delimiter}
use Rattle.tok_leaves.specs.Leaves.{Leaf}
use Rattle.tok_core.specs.Forest.{leaf, group, Forest, no_trees, tree, concat, reverse_onto}
use Rattle.tok_core.specs.Weight.{weight}
use Rattle.tok_core.proofs.Facts.{concat-none, reversed_back}
use Rattle.tok_buffer.specs.Place.{Enclosing, whole, in_group, Frame, frame}
use Rattle.tok_buffer.specs.Moves.{move, frames_at}
use Rattle.tok_buffer.specs.declared.entry.Entry.{Entry}
use Rattle.tok_buffer.specs.declared.entry.Entry.TheVariants.{End}
use Rattle.tok_buffer.specs.Private.Layout.{leaf_entry, layout, entries_of, forest_in}
use Rattle.tok_buffer.specs.Private.Layout.{group_entry, entry_here}
use Rattle.tok_buffer.proofs.Layouts.{layout-reversed, length-layout}

-- what lies before and after a frame's content c
abbrev pub outside : Enclosing → Forest → List Frame → List Entry × List Entry
outside whole c us = ([], End 0 ∷ [])
outside (in_group d s) c [] = ([], End (weight c + 1) ∷ [])
outside (in_group d s) c (frame o p f ∷ us) = (
  ((outside o (reverse_onto p (tree (group d c s) f)) us).0 ++ layout (reverse_onto p no_trees))
      ++ group_entry d s c ∷ [],
  End (weight c + 1) ∷ (layout f ++ (outside o (reverse_onto p (tree (group d c s) f)) us).1),
)

-- each frame but the last is inside a group
abbrev pub nested : Frame → List Frame → Type 0
nested (frame whole p f) [] = Unit {0}
nested (frame whole p f) (u ∷ us) = ⊥
nested (frame (in_group d s) p f) [] = ⊥
nested (frame (in_group d s) p f) (u ∷ us) = nested u us

-- the entries before what is ahead in a frame
abbrev pub before : Frame → List Frame → List Entry
before (frame o p f) us = (outside o (reverse_onto p f) us).0 ++ layout (reverse_onto p no_trees)

-- the entries of what is ahead in a frame, and those after it
abbrev pub after : Frame → List Frame → List Entry
after (frame o p f) us = layout f ++ (outside o (reverse_onto p f) us).1

-- the trees of a frame do not matter
nested-same : (o : Enclosing) (p f q g : Forest) (us : List Frame) → nested (frame o p f) us
    → nested (frame o q g) us
nested-same whole p f q g [] h = h
nested-same whole p f q g (u ∷ us) h = h
nested-same (in_group d s) p f q g [] h = h
nested-same (in_group d s) p f q g (u ∷ us) h = h

move-nested : (l : Frame) (us : List Frame) → nested l us → nested (move l us).0 (move l us).1
move-nested (frame whole p no_trees) [] h = h
move-nested (frame (in_group d s) p no_trees) [] h = h
move-nested (frame whole p no_trees) (u ∷ us) h = absurd h
move-nested (frame (in_group d s) p no_trees) (frame o q g ∷ us) h = nested-same o _ _ _ _ us h
move-nested (frame o p (tree (leaf i) f)) us h = nested-same o _ _ _ _ us h
move-nested (frame o p (tree (group d c s) f)) us h = nested-same o _ _ _ _ us h

-- a move goes past one entry
abbrev pub Moves : Frame → List Frame → Type 0
Moves l us =
    (before (move l us).0 (move l us).1 ≡ before l us ++ entry_here l ∷ [])
    × (after l us ≡ entry_here l ∷ after (move l us).0 (move l us).1)

leaf_moves : (r : List Entry × List Entry) (p : Forest) (i : Leaf) (f : Forest) →
    (r.0 ++ layout (reverse_onto p (tree (leaf i) no_trees))
    ≡ (r.0 ++ layout (reverse_onto p no_trees)) ++ leaf_entry i ∷ [])
    × (leaf_entry i ∷ (layout f ++ r.1) ≡ leaf_entry i ∷ (layout f ++ r.1))
leaf_moves r p i f = (
  rw (layout-reversed p (tree (leaf i) no_trees), append_assoc),
  refl,
)

open_moves : (r : List Entry × List Entry) (p : Forest) (d : Delimiter) (s : Span)
    (c f : Forest) →
    ((((r.0 ++ layout (reverse_onto p no_trees)) ++ group_entry d s c ∷ []) ++ [])
    ≡ (r.0 ++ layout (reverse_onto p no_trees)) ++ group_entry d s c ∷ [])
    × (group_entry d s c ∷ ((layout c ++ End (weight c + 1) ∷ layout f) ++ r.1)
    ≡ group_entry d s c ∷ (layout c ++ End (weight c + 1) ∷ (layout f ++ r.1)))
open_moves r p d s c f = (append-nil _, rw append_assoc)

close_moves : (r : List Entry × List Entry) (q : Forest) (d : Delimiter) (s : Span)
    (x g : Forest) → (r.0 ++ layout (reverse_onto q (tree (group d x s) no_trees))
    ≡ (((r.0 ++ layout (reverse_onto q no_trees)) ++ group_entry d s x ∷ []) ++ layout x)
    ++ End (weight x + 1) ∷ [])
    × (End (weight x + 1) ∷ (layout g ++ r.1) ≡ End (weight x + 1) ∷ (layout g ++ r.1))
close_moves r q d s x g =
    (ap (λ z. r.0 ++ z) (layout-reversed q (tree (group d x s) no_trees)) ∙ simp append_assoc, refl)

move_past : (o : Enclosing) (p f : Forest) (us : List Frame) → nested (frame o p f) us →
    0 < weight f + length us → Moves (frame o p f) us
move_past o p (tree (leaf i) f) us h k =
    leaf_moves (outside o (reverse_onto p (tree (leaf i) f)) us) p i f
move_past o p (tree (group d c s) f) us h k =
    open_moves (outside o (reverse_onto p (tree (group d c s) f)) us) p d s c f
move_past o p no_trees [] h k = absurd (omega arith)
move_past whole p no_trees (u ∷ us) h k = absurd h
move_past (in_group d s) p no_trees (frame o q g ∷ us) h k =
    let x = reverse_onto p no_trees in
    close_moves (outside o (reverse_onto q (tree (group d x s) g)) us) q d s x g

-- these frames are at a count of these entries
abbrev pub At : List Entry → Frame → List Frame → ℕ → Type 0
At E l us n = nested l us × (E ≡ before l us ++ after l us) × (length (before l us) ≡ n)

pub last_or : (o : Enclosing) (p f : Forest) (us : List Frame) → nested (frame o p f) us →
    (length (after (frame o p f) us) ≤ 1) ⊎ (0 < weight f + length us)
last_or o p (tree (leaf i) f) us h = inr (omega arith)
last_or o p (tree (group d c s) f) us h = inr (omega arith)
last_or whole p no_trees [] h = inl (omega arith)
last_or (in_group d s) p no_trees [] h = absurd h
last_or o p no_trees (u ∷ us) h = inr (omega arith)

step_at : (E : List Entry) (w n : ℕ) (l : Frame) (us : List Frame) → length E ≡ w + 1 → n < w →
    At E l us n → At E (move l us).0 (move l us).1 (suc n)
step_at E w n (frame o p f) us he hn (h, hw, hl) =
    let b = before (frame o p f) us in
    let a = after (frame o p f) us in
    elim (last_or o p f us h) [
      | inl k ↦ absurd (omega (arith, ap length hw, length-append b a))
      | inr k ↦
          let m = move_past o p f us h k in
          let x = entry_here (frame o p f) in
          let a' = after (move (frame o p f) us).0 (move (frame o p f) us).1 in (
            move-nested (frame o p f) us h,
            cc (hw, m.1, m.0, append_assoc b (x ∷ []) a'),
            omega (arith, ap length m.0, length-append b (x ∷ [])),
          )
    ]

pub length-entries_of : (F : Forest) → length (entries_of F) ≡ weight F + 1
length-entries_of F = omega (arith, length-append (layout F) (End 0 ∷ []), length-layout F)

pub at_all : (F : Forest) (n : ℕ) → n ≤ weight F → At (entries_of F) (frames_at F n).0
    (frames_at F n).1 n
unfolding frames_at
at_all F zero h = (tt, refl, refl)
at_all F (suc n) h =
    step_at (entries_of F) (weight F) n (frames_at F n).0 (frames_at F n).1 (length-entries_of F)
    h (at_all F n (omega arith))

after_here : (l : Frame) (us : List Frame) → nested l us → (rest : List Entry)
    × (after l us ≡ entry_here l ∷ rest)
after_here (frame o p (tree (leaf i) f)) us h = (_, refl)
after_here (frame o p (tree (group d c s) f)) us h = (_, refl)
after_here (frame whole p no_trees) [] h = ([], refl)
after_here (frame (in_group d s) p no_trees) [] h = absurd h
after_here (frame whole p no_trees) (u ∷ us) h = absurd h
after_here (frame (in_group d s) p no_trees) (frame o q g ∷ us) h = (_, refl)

entry_from : (E : List Entry) (l : Frame) (us : List Frame) (n : ℕ) (d : Entry) → At E l us n →
    get_or E n d ≡ entry_here l
entry_from E l us n d (h, hw, hl) =
    let r = after_here l us h in
    rw (hw, r.1) (get_or_at (before l us) (entry_here l) r.0 d n hl)

-- the entry at a count
pub entry_at : (F : Forest) (n : ℕ) (d : Entry) → n ≤ weight F → get_or (entries_of F) n d
    ≡ entry_here (frames_at F n).0
entry_at F n d h = entry_from (entries_of F) (frames_at F n).0 (frames_at F n).1 n d (at_all F n h)

-- moving past a whole forest
pub jump : (F g : Forest) (n : ℕ) (o : Enclosing) (p f : Forest) (us : List Frame) → frames_at F n
    ≡ (frame o p (concat g f), us) → frames_at F (n + weight g)
    ≡ (frame o (reverse_onto g p) f, us)
unfolding frames_at
jump F no_trees n o p f us e = rw add-zero e
jump F (tree (leaf i) g) n o p f us e =
    let q : n + (1 + weight g) ≡ suc n + weight g = omega arith in
    ap (frames_at F) q ∙ jump F g (suc n) o (tree (leaf i) p) f us (ap (λ x. move x.0 x.1) e)
jump F (tree (group d c s) g) n o p f us e =
    let q : n + (2 + weight c + weight g) ≡ suc (suc n + weight c) + weight g = omega arith in
    let inside =
    jump F c (suc n) (in_group d s) no_trees no_trees (frame o p (concat g f) ∷ us)
    (ap (λ x. move x.0 x.1) e
    ∙ ap (λ z. (frame (in_group d s) no_trees z, frame o p (concat g f) ∷ us))
    (sym (concat-none c)))
    in
    ap (frames_at F) q
    ∙ jump F g (suc (suc n + weight c)) o (tree (group d c s) p) f us
    (ap (λ x. move x.0 x.1) inside
    ∙ ap (λ z. (frame o (tree (group d z s) p) (concat g f), us)) (reversed_back c))

pub frames_next : (F : Forest) (n : ℕ) → frames_at F (n + 1) ≡ move (frames_at F n).0
    (frames_at F n).1
unfolding frames_at
frames_next F n = rw add-one

-- what a buffer's entries tell
pub laid_length : (E : List Entry) (F : Forest) → E ≡ entries_of (forest_in E) →
    forest_in E ≡ F → length E ≡ weight F + 1
laid_length E F e v = rw (e, v) (length-entries_of F)

pub laid_entry : (E : List Entry) (F : Forest) (n : ℕ) (x : Entry) →
    E ≡ entries_of (forest_in E) → forest_in E ≡ F → n ≤ weight F → x ≡ get_or E n x →
    x ≡ entry_here (frames_at F n).0
laid_entry E F n x e v h q = cc (q, e, v, entry_at F n x h)
