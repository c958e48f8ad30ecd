-- Puncts read one by one.
use Rattle.std.proofs.Common.{◌≡◌, sym, ap, ℕ, ◌+◌, ◌<◌, refl, List, [], ◌∷◌, ◌++◌, arith}
use Rattle.std.proofs.Common.{length, set, take, map, Option, Some, None}
use Rattle.std.proofs.lemmas.List.{append_assoc, map-append, take_more_set}
use Rattle.tok_leaves.specs.declared.span.Span.{Span}
use Rattle.tok_core.specs.Forest.{Tree, tree_span}
use Rattle.tok_buffer.specs.declared.cursor.Cursor.{Cursor}
use Rattle.tok_buffer.specs.declared.spot.Spot.{Spot}
use Rattle.tok_buffer.specs.Cursors.{place_of, spot_place}
use Rattle.tok_buffer.specs.Place.{Place, empty_place}
use Rattle.tok_buffer.specs.Reads.{read_next, read_punctuation}

-- what is read, and the place after it
abbrev Read : Type 0
Read = Option (List Tree × Place)

-- a read after some trees
abbrev after : List Tree → Read → Read
after done x = elim x [ Some r ↦ Some (done ++ r.0, r.1) | None ↦ None ]

-- the puncts of these characters, of which there may be none
abbrev read_all : List ℕ → Place → Read
read_all [] p = Some ([], p)
read_all (c ∷ cs) p = read_punctuation (c ∷ cs) p

-- The puncts of the first characters have been read, and their spans kept; the others are read
-- from here.
pub record SoFar (text : List ℕ) (start : Place) (index : ℕ) (spans : List Span) (left : List ℕ)
    (here : Place) : Type 0 where
  pub done : List Tree
  pub counted : length text ≡ index + length left
  pub kept : take index spans ≡ map tree_span done
  pub reads : read_all text start ≡ after done (read_all left here)

pub so_far_start : (text : List ℕ) (start : Place) (spans : List Span) →
    SoFar text start 0 spans text start
so_far_start text start spans = record {
  done = [];
  counted = omega arith;
  kept = refl;
  reads = sym (same (read_all text start));
} where
  same : (x : Read) → after [] x ≡ x
  same None = refl
  same (Some r) = refl

after-after : (done : List Tree) (t : Tree) (x : Read) → after done (after (t ∷ []) x)
    ≡ after (done ++ t ∷ []) x
after-after done t None = refl
after-after done t (Some r) = rw append_assoc

one_more : (c : ℕ) (cs : List ℕ) (p q : Place) (t : Tree) → read_next c cs p ≡ Some (t ∷ [], q) →
    read_all (c ∷ cs) p ≡ after (t ∷ []) (read_all cs q)
one_more c [] p q t e = e
one_more c (d ∷ cs) p q t e = rw e

module _ (text : List ℕ) (start : Place) (i : ℕ) (spans : List Span) (left : List ℕ)
    (here : Place) (so : SoFar text start i spans left here) where
  pub so_far_more : (c : ℕ) (cs : List ℕ) (t : Tree) (q : Place) → i < length spans →
      left ≡ c ∷ cs → read_next c cs here ≡ Some (t ∷ [], q) →
      SoFar text start (i + 1) (set spans i (tree_span t)) cs q
  so_far_more c cs t q low e h = record {
    done = so.done ++ t ∷ [];
    counted = omega (arith, so.counted, ap length e);
    kept = rw (take_more_set spans i (tree_span t) low, so.kept, map-append);
    reads = rw (so.reads, e, one_more c cs here q t h) (after-after so.done t (read_all cs q));
  }

pub at_spot : (cursor : Cursor) (spot : Spot) → cursor.spot ≡ Some spot → place_of cursor
    ≡ spot_place spot
at_spot cursor spot e = rw e

nothing_at_empty : (cs : List ℕ) → read_punctuation cs empty_place ≡ None
nothing_at_empty [] = refl
nothing_at_empty (c ∷ []) = refl
nothing_at_empty (c ∷ (d ∷ cs)) = refl

pub nothing_without_spot : (cursor : Cursor) (cs : List ℕ) → cursor.spot ≡ None →
    read_punctuation cs (place_of cursor) ≡ None
nothing_without_spot cursor cs e = rw e (nothing_at_empty cs)
