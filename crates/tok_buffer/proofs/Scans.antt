-- One scan forward finds the first visible tree.
use Rattle.std.proofs.Common.{◌≡◌, ℕ, ◌+◌, ◌-◌, Bool, true, List, [], ◌∷◌, ◌++◌, Some}
use Rattle.std.proofs.Common.{refl, arith, append_assoc, ltb, lt-ltb}
use Rattle.std.proofs.lemmas.Bool.{false≢true}
use Rattle.std.specs.Prelude.{not}
use Rattle.tok_lexical.specs.declared.delimiter.Delimiter.{Delimiter}
use Rattle.tok_lexical.specs.declared.delimiter.Delimiter.TheVariants as delimiter
use Rattle.tok_leaves.specs.declared.span.Span.{Span}
use Rattle.tok_core.specs.Forest.{Tree, leaf, group, Forest, no_trees, tree, tree_span}
use Rattle.tok_buffer.specs.Ahead.{visible, ahead_in, marked_ahead, first_of}
use Rattle.tok_buffer.specs.Entry.{same_delimiter}
use Rattle.tok_buffer.specs.Place.{whole, in_group, Frame, frame, Place, empty_place, at, front}
use Rattle.tok_buffer.specs.Moves.{advance, end_of, frame_ahead, frames_at, frames_in_scope}
use Rattle.tok_buffer.specs.Private.Steps.{ahead_place, ends_group}
use Rattle.tok_buffer.specs.declared.ahead.Ahead.{Ahead}
use Rattle.tok_buffer.proofs.InScope.{scope_end}

-- what is ahead in frames, where that of the innermost d is marked
abbrev shown_in : ℕ → List Frame → List (Bool × Tree)
shown_in d [] = []
shown_in d (frame o p a ∷ ls) = visible (ltb 0 d) a ++ shown_in (d - 1) ls

-- what is ahead of a place, where that of the innermost d frames is marked
abbrev pub shown : ℕ → Place → List (Bool × Tree)
shown d empty_place = []
shown d (at k s n l us) = shown_in d (l ∷ us)

none_marked : (ls : List Frame) → ahead_in ls ≡ shown_in 0 ls
none_marked [] = refl
none_marked (frame o p a ∷ ls) = rw (none_marked ls)

pub shown_is : (p : Place) → marked_ahead p ≡ shown 0 p
shown_is empty_place = refl
shown_is (at k s n l us) = none_marked (l ∷ us)

-- a tree that is no invisible group
abbrev pub is_visible : Tree → Bool
is_visible (leaf l) = true
is_visible (group d inside span) = not (same_delimiter d delimiter.None)

visible_first : (m : Bool) (t : Tree) (f : Forest) → is_visible t ≡ true →
    visible m (tree t f) ≡ (m, t) ∷ visible m f
visible_first m (leaf l) f h = refl
visible_first m (group delimiter.None inside span) f h = absurd (false≢true h)
visible_first m (group d inside span) f h = refl

-- a visible tree is found
pub shown_front : (d : ℕ) (p : Place) (t : Tree) → front p ≡ Some t → is_visible t ≡ true →
    first_of (shown d p) ≡ Some (ltb 0 d, tree_span t)
shown_front d empty_place t e h = cc
shown_front d (at k s n (frame o p no_trees) us) t e h = cc
shown_front d (at k s n (frame o p (tree u f)) us) t e h =
    let w : t ≡ u = cc in
    rw (← w, visible_first (ltb 0 d) t f h)

-- an invisible group is entered
opened : (d : ℕ) (c f : Forest) (us : List Frame) →
    visible (ltb 0 (d + 1)) c ++ (visible (ltb 0 (d + 1 - 1)) f ++ shown_in (d + 1 - 1 - 1) us)
    ≡ (visible true c ++ visible (ltb 0 d) f) ++ shown_in (d - 1) us
opened d c f us =
    let q : d + 1 - 1 ≡ d = omega arith in
    rw (q, lt-ltb 0 (d + 1) (omega arith), append_assoc)

pub shown_open : (d : ℕ) (p : Place) (x : Delimiter) (c : Forest) (t : Span) →
    front p ≡ Some (group x c t) → same_delimiter x delimiter.None ≡ true →
    shown (d + 1) (advance p) ≡ shown d p
shown_open d empty_place x c t e h = cc
shown_open d (at k s n (frame o p no_trees) us) x c t e h = cc
shown_open d (at k s n (frame o p (tree (leaf i) f)) us) x c t e h = cc
shown_open d (at k s n (frame o p (tree (group delimiter.None b y) f)) us) x c t e h =
    opened d b f us
shown_open d (at k s n (frame o p (tree (group z b y) f)) us) x c t e h =
    let w : x ≡ z = cc in
    absurd (false≢true (rw w at h))

-- a group ends
pub shown_close : (d : ℕ) (p : Place) → ends_group p ≡ true → shown (d - 1) (advance p) ≡ shown d p
shown_close d empty_place h = absurd (false≢true h)
shown_close d (at k s n (frame o p (tree t f)) us) h = absurd (false≢true h)
shown_close d (at k s n (frame o p no_trees) []) h = absurd (false≢true h)
shown_close d (at k s n (frame whole p no_trees) (frame o q g ∷ us)) h = refl
shown_close d (at k s n (frame (in_group x t) p no_trees) (frame o q g ∷ us)) h = refl

none_shown : (d k s n : ℕ) (l : Frame) (us : List Frame) → frame_ahead l ≡ no_trees → us ≡ [] →
    shown d (at k s n l us) ≡ []
none_shown d k s n (frame o p f) us e q = rw (e, q)

-- at the scope's end nothing is shown
pub shown_done : (d : ℕ) (a : Ahead) → a.position ≡ a.scope → shown d (ahead_place a) ≡ []
shown_done d a e =
    let x = frames_at a.buffer.now.forest a.position in
    let q = scope_end a.position a.scope x.0 x.1 a.within e in
    none_shown d a.buffer.now.number a.scope a.position x.0
    (frames_in_scope (end_of a.position x.0) a.scope x.1) q.0 q.1
