-- What encloses a scope, from its end.
use Rattle.std.proofs.Common.{◌≡◌, ℕ, zero, suc, ◌+◌, ◌-◌, ◌≤◌, ◌≢◌, true, List, [], ◌∷◌, ◌++◌}
use Rattle.std.proofs.Common.{length, get_or, refl, arith, append_assoc, length-append}
use Rattle.std.proofs.lemmas.List.{get_or_at}
use Rattle.tok_core.specs.Forest.{leaf, group, Forest, no_trees, tree, reverse_onto}
use Rattle.tok_core.specs.Weight.{weight}
use Rattle.tok_buffer.specs.Place.{Enclosing, whole, in_group, Frame, frame, leave_group}
use Rattle.tok_buffer.specs.Rest.{enclosing_delimiter, frames_delimiter, scope_delimiter}
use Rattle.tok_buffer.specs.Moves.{frame_ahead, frame_enclosing, move, frames_at, frames_in_scope}
use Rattle.tok_buffer.specs.Moves.{end_of, place_at, in_scope, at_end}
use Rattle.tok_buffer.specs.Private.Layout.{layout, entries_of, group_entry, back, entry_here}
use Rattle.tok_buffer.specs.Private.Layout.{entry_enclosing}
use Rattle.tok_buffer.specs.declared.entry.Entry.{Entry}
use Rattle.tok_buffer.specs.declared.entry.Entry.TheVariants.{End}
use Rattle.tok_buffer.proofs.Layouts.{length-layout, not_leaf}
use Rattle.tok_buffer.proofs.Stacks.{At, at_all, entry_at, after, outside}
use Rattle.tok_buffer.proofs.InScope.{place_step, scope_end, before_scope}

pub leave_group-delimiter : (o : Enclosing) (p : Forest) (u : Frame) (us : List Frame) →
    frames_delimiter (leave_group o p u) us ≡ frames_delimiter u us
leave_group-delimiter whole p u us = refl
leave_group-delimiter (in_group d s) p (frame o q g) [] = refl
leave_group-delimiter (in_group d s) p (frame o q g) (v ∷ us) = refl

delimiter_moves : (l : Frame) (us : List Frame) → frames_delimiter (move l us).0 (move l us).1
    ≡ frames_delimiter l us
delimiter_moves (frame o p (tree (leaf i) f)) [] = refl
delimiter_moves (frame o p (tree (leaf i) f)) (u ∷ us) = refl
delimiter_moves (frame o p (tree (group d c t) f)) [] = refl
delimiter_moves (frame o p (tree (group d c t) f)) (u ∷ us) = refl
delimiter_moves (frame o p no_trees) [] = refl
delimiter_moves (frame o p no_trees) (u ∷ us) = leave_group-delimiter o p u us

root_delimiter : (l : Frame) → frames_delimiter l [] ≡ enclosing_delimiter (frame_enclosing l)
root_delimiter (frame o p a) = refl

scope_is_end : (k : ℕ) (F : Forest) (n s : ℕ) → in_scope F n s ≡ true → (m : ℕ) → n + m ≡ s →
    (in_scope F s s ≡ true)
    × (scope_delimiter (place_at k F n s) ≡ enclosing_delimiter (frame_enclosing (frames_at F s).0))
scope_is_end k F n s h zero e =
    let q : n ≡ s = omega arith in
    let x = frames_at F s in
    let hs : in_scope F s s ≡ true = rw q at h in
    (hs, rw (q, (scope_end s s x.0 x.1 hs refl).1) (root_delimiter x.0))
scope_is_end k F n s h (suc m) e =
    let ne : n ≢ s = λ x. absurd (omega arith) in
    let t = place_step k n s F h ne in
    let x = frames_at F n in
    let us = frames_in_scope (end_of n x.0) s x.1 in
    let r = scope_is_end k F (n + 1) s t.0 m (omega arith) in
    (r.0, cc (delimiter_moves x.0 us, t.1, r.1))

pub scope_ends : (F : Forest) (n s : ℕ) → in_scope F n s ≡ true →
    at_end (frame_ahead (frames_at F s).0) ≡ true
scope_ends F n s h =
    let r = scope_is_end 0 F n s h (s - n) (omega (arith, before_scope F n s h)) in
    rw (scope_end s s (frames_at F s).0 (frames_at F s).1 r.0 refl).0 refl

pub scope_enclosing : (k : ℕ) (F : Forest) (n s : ℕ) → in_scope F n s ≡ true →
    scope_delimiter (place_at k F n s) ≡ enclosing_delimiter (frame_enclosing (frames_at F s).0)
scope_enclosing k F n s h = (scope_is_end k F n s h (s - n) (omega (arith, before_scope F n s h))).1

reach_back : (E : List Entry) (n : ℕ) (o : Enclosing) (p : Forest) (us : List Frame) →
    At E (frame o p no_trees) us n → (back (frame o p no_trees) ≤ n)
    × ((d : Entry) → get_or E n d ≡ End (back (frame o p no_trees)) →
    entry_enclosing (get_or E (n - back (frame o p no_trees)) d) ≡ o)
reach_back E n whole p us a = (
  omega arith,
  λ d e. let q : n - 0 ≡ n = omega arith in rw (q, e),
)
reach_back E n (in_group d t) p [] a = absurd a.0
reach_back E n (in_group d t) p (frame o q g ∷ us) a =
    let c = reverse_onto p no_trees in
    let r = outside o (reverse_onto q (tree (group d c t) g)) us in
    let X = r.0 ++ layout (reverse_onto q no_trees) in
    let y = after (frame (in_group d t) p no_trees) (frame o q g ∷ us) in
    let len : length X + 1 + weight c ≡ n =
    omega (arith, a.2, length-append {A = Entry}, length-layout) in (
      omega arith,
      λ x e. let there : length X ≡ n - (weight c + 1) = omega arith in
          let here = get_or_at X (group_entry d t c) (layout c ++ y) x (n - (weight c + 1)) there in
          let apart = append_assoc (X ++ group_entry d t c ∷ []) (layout c) y in
          let first = append_assoc X (group_entry d t c ∷ []) (layout c ++ y) in
          rw (a.1, apart, first, here),
    )

back_from : (E : List Entry) (n : ℕ) (l : Frame) (us : List Frame) → At E l us n → (k : ℕ) →
    entry_here l ≡ End k → (k ≤ n)
    × ((d : Entry) → get_or E n d ≡ End k → entry_enclosing (get_or E (n - k) d)
    ≡ frame_enclosing l)
back_from E n (frame o p (tree (leaf i) f)) us a k e = absurd (not_leaf (End k) i refl e)
back_from E n (frame o p (tree (group x c t) f)) us a k e = cc
back_from E n (frame o p no_trees) us a k e =
    let q : back (frame o p no_trees) ≡ k = cc in
    rw q at (reach_back E n o p us a)

pub enclosing_entry : (F : Forest) (n k : ℕ) → n ≤ weight F → entry_here (frames_at F n).0 ≡ End k →
    (k ≤ n)
    × (entry_enclosing (entry_here (frames_at F (n - k)).0) ≡ frame_enclosing (frames_at F n).0)
enclosing_entry F n k h e =
    let r = back_from (entries_of F) n (frames_at F n).0 (frames_at F n).1 (at_all F n h) k e in (
      r.0,
      rw (← entry_at F (n - k) (End k) (omega arith)) (r.1 (End k) (rw (entry_at F n (End k) h) e)),
    )
