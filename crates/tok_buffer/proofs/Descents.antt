-- A descent, one group at a time.
use Rattle.std.proofs.Common.{◌≡◌, ℕ, ◌+◌, true, false, List, [], ◌∷◌, Option, Some, None, refl}
use Rattle.std.proofs.Common.{sym, ◌∙◌, arith, add-zero}
use Rattle.std.specs.Prelude.{unwrap_or}
use Rattle.std.specs.Option.{option_or}
use Rattle.std.proofs.lemmas.Bool.{false≢true}
use Rattle.tok_leaves.specs.declared.span.Span.{Span}
use Rattle.tok_lexical.specs.declared.delimiter.Delimiter.TheVariants as delimiter
use Rattle.tok_core.specs.Forest.{Tree, leaf, group, Forest, no_trees, tree, reverse_onto}
use Rattle.tok_core.specs.Weight.{weight}
use Rattle.tok_core.proofs.Facts.{reversed_back}
use Rattle.tok_buffer.specs.Descent.{into_front, descend_from, descend}
use Rattle.tok_buffer.specs.Place.{Enclosing, in_group, Frame, frame, Place, at, leave_group}
use Rattle.tok_buffer.specs.Place.{leave_finished, settled}
use Rattle.tok_buffer.specs.Moves.{frame_ahead, advance, is_settled, invisible_front}

-- a descent is one into the settled place
pub descend-leave_finished : (n s c : ℕ) (l : Frame) (ls : List Frame)
    → descend (leave_finished n s c l ls)
    ≡ descend_from n s c l ls
descend-leave_finished n s c l [] = refl
descend-leave_finished n s c (frame o p no_trees) (m ∷ ls) =
    rw add-zero (descend-leave_finished n s (c + 1) (leave_group o p m) ls)
descend-leave_finished n s c (frame o p (tree t f)) (m ∷ ls) = refl

or-unwrap : (a b : Option Place) (p : Place) → unwrap_or (option_or a b) p
    ≡ unwrap_or a (unwrap_or b p)
or-unwrap None b p = refl
or-unwrap (Some a) b p = refl

-- what follows the trees ahead
abbrev after : (k s n : ℕ) → Enclosing → (passed ahead : Forest) → List Frame → Place
after k s n o p f [] = at k s (n + weight f) (frame o (reverse_onto f p) no_trees) []
after k s n o p f (l ∷ ls) = descend_from k s (n + weight f + 1)
    (leave_group o (reverse_onto f p) l) ls

descend_from_is : (k s n : ℕ) (o : Enclosing) (p f : Forest) (ls : List Frame) →
    descend_from k s n (frame o p f) ls ≡ unwrap_or (into_front f k s n o p ls)
    (after k s n o p f ls)
descend_from_is k s n o p f [] = refl
descend_from_is k s n o p f (l ∷ ls) = refl

after_group : (k s n m : ℕ) (o : Enclosing) (p : Forest) (t : Tree) (f : Forest) (ls : List Frame) →
    m + weight f ≡ n + weight (tree t f) → after k s m o (tree t p) f ls
    ≡ after k s n o p (tree t f) ls
after_group k s n m o p t f [] e = rw e
after_group k s n m o p t f (l ∷ ls) e = rw e

into_step : (k s n : ℕ) (o : Enclosing) (p c : Forest) (span : Span) (f : Forest) (ls : List Frame)
    →
    descend_from k s (n + 1) (frame (in_group delimiter.None span) no_trees c) (frame o p f ∷ ls)
    ≡ descend_from k s n (frame o p (tree (group delimiter.None c span) f)) ls
into_step k s n o p c span f ls =
    let g = group delimiter.None c span in
    let a = into_front c k s (n + 1) (in_group delimiter.None span) no_trees (frame o p f ∷ ls) in
    let m = n + 1 + weight c + 1 in
    let e : m ≡ n + (2 + weight c) = omega arith in
    rw (reversed_back c, e, descend_from_is k s (n + (2 + weight c)) o (tree g p) f ls)
    (rw (after_group k s n (n + (2 + weight c)) o p g f ls (omega arith), ← or-unwrap)
    (sym (descend_from_is k s n o p (tree g f) ls)))

-- entering the invisible group in front doesn't change where the descent leads
pub descend_step : (k s n : ℕ) (l : Frame) (us : List Frame) → invisible_front (frame_ahead l)
    ≡ true → descend (settled (advance (at k s n l us))) ≡ descend (at k s n l us)
descend_step k s n (frame o p no_trees) us h = absurd (false≢true h)
descend_step k s n (frame o p (tree (leaf i) f)) us h = absurd (false≢true h)
descend_step k s n (frame o p (tree (group delimiter.None c span) f)) us h =
    descend-leave_finished k s (n + 1) (frame (in_group delimiter.None span) no_trees c)
    (frame o p f ∷ us) ∙ into_step k s n o p c span f us
descend_step k s n (frame o p (tree (group d c span) f)) us h = absurd (false≢true h)

visible_done : (k s n : ℕ) (o : Enclosing) (p f : Forest) (us : List Frame) →
    into_front f k s n o p us ≡ Some (at k s n (frame o p f) us) →
    descend (at k s n (frame o p f) us) ≡ at k s n (frame o p f) us
visible_done k s n o p f us e = rw (descend_from_is k s n o p f us, e)

-- where no invisible group is in front a settled place is the descent's end
pub descend_done : (k s n : ℕ) (l : Frame) (us : List Frame) → is_settled l us ≡ true →
    invisible_front (frame_ahead l) ≡ false → descend (at k s n l us) ≡ at k s n l us
descend_done k s n (frame o p no_trees) [] q h = rw add-zero
descend_done k s n (frame o p no_trees) (u ∷ us) q h = absurd (false≢true q)
descend_done k s n (frame o p (tree (leaf i) f)) us q h =
    visible_done k s n o p (tree (leaf i) f) us refl
descend_done k s n (frame o p (tree (group delimiter.None c t) f)) us q h =
    absurd (false≢true (sym h))
descend_done k s n (frame o p (tree (group d c t) f)) us q h =
    visible_done k s n o p (tree (group d c t) f) us refl
