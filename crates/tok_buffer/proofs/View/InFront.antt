-- What single calls return, by the erased trees ahead.
use Rattle.std.proofs.Common.{◌≡◌, refl, ℕ, ◌+◌, Bool, true, false, cond, List, [], ◌∷◌, Some, None}
use Rattle.std.specs.Prelude.{option_map}
use Rattle.tok_lexical.specs.declared.delimiter.Delimiter.{Delimiter}
use Rattle.tok_lexical.specs.declared.delimiter.Delimiter.TheVariants as delimiter
use Rattle.tok_leaves.specs.declared.span.Span.{Span}
use Rattle.tok_core.specs.Erase.{erase}
use Rattle.tok_core.specs.Forest.{leaf, group, Forest, no_trees, tree, concat}
use Rattle.tok_core.specs.Weight.{weight}
use Rattle.tok_core.proofs.Facts.{concat-none}
use Rattle.tok_buffer.specs.Descent.{descend}
use Rattle.tok_buffer.specs.Entry.{enter, enter_any, entered_of, same_delimiter}
use Rattle.tok_buffer.specs.InFront.{entered_ahead, first_group, AheadTellsAll, AheadTellsEnds}
use Rattle.tok_buffer.specs.InFront.{AllAheadAtStart}
use Rattle.tok_buffer.specs.Place.{Enclosing, in_group, Frame, frame, Place, empty_place, at}
use Rattle.tok_buffer.specs.Place.{leave_finished}
use Rattle.tok_buffer.specs.View.{erased_ahead, erased_in, IsVisibleDelimiter}
use Rattle.tok_buffer.proofs.View.Ends.{end_tells}
use Rattle.tok_buffer.proofs.View.Erased.{erased-descend, erased-pass}
use Rattle.tok_buffer.proofs.View.Keeps.{IsDescended, descended-descend}
use Rattle.tok_buffer.proofs.View.Places.{reached_stands}
use Rattle.tok_buffer.proofs.View.Readings.{each_read}
use Rattle.tok_buffer.proofs.View.Spans.{leftover_tells}
use Rattle.tok_buffer.proofs.View.Tells.{tells}

-- a visible group in front
module _ (n s c : ℕ) (o : Enclosing) (p : Forest) (d : Delimiter) (inside : Forest) (span : Span)
    (f : Forest) (ls : List Frame) where
  group-ahead : (b : Bool)
      → option_map entered_ahead (cond b (Some (record {
        delimiter = d;
        span = span;
        content = at n (c + 1 + weight inside) (c + 1) (frame (in_group d span) no_trees inside) [];
        after = leave_finished n s (c + (2 + weight inside))
            (frame o (tree (group d inside span) p) f) ls;
      })) None)
      ≡ cond b
      (Some
      (record {
        delimiter = d;
        span = span;
        content = erase inside;
        after = concat (erase f) (erased_in ls);
      })) None
  group-ahead true =
      rw (concat-none (erase inside), erased-pass n s c o p (group d inside span) f ls)
  group-ahead false = refl

front-ahead : (d : Delimiter) (p : Place) → IsDescended p
    → option_map entered_ahead (entered_of d (enter_any p)) ≡ first_group d (erased_ahead p)
front-ahead d empty_place h = refl
front-ahead d (at n s c (frame o p (tree (leaf l) f)) ls) h = refl
front-ahead d (at n s c (frame o p (tree (group delimiter.None inside span) f)) ls) h = absurd h
front-ahead d (at n s c (frame o p (tree (group e inside span) f)) ls) h =
    group-ahead n s c o p e inside span f ls (same_delimiter d e)
front-ahead d (at n s c (frame o p no_trees) []) h = refl
front-ahead d (at n s c (frame o p no_trees) (l ∷ ls)) h = absurd h

descended-ahead : (d : Delimiter) (p : Place)
    → option_map entered_ahead (entered_of d (enter_any (descend p)))
    ≡ first_group d (erased_ahead p)
descended-ahead d p = rw (← erased-descend p) (front-ahead d (descend p) (descended-descend p))

pub tells-enter : (d : Delimiter) (p : Place) → IsVisibleDelimiter d
    → option_map entered_ahead (enter d p) ≡ first_group d (erased_ahead p)
tells-enter delimiter.None p v = absurd v
tells-enter d p v = descended-ahead d p

pub ahead_tells : AheadTellsAll
ahead_tells p = record {
  leaves = each_read _ (λ read first r. tells r p);
  enters = λ d v. tells-enter d p v;
  leftovers = leftover_tells p;
}

pub ahead_tells_ends : AheadTellsEnds
ahead_tells_ends b i p r = let h = reached_stands b i p r in end_tells p h.settled h.holds.filled

pub all_ahead_at_start : AllAheadAtStart
all_ahead_at_start number f = concat-none (erase f)
