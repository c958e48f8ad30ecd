-- How many are left in a scope, and how many of them are visible.
use Rattle.std.proofs.Common.{◌≡◌, ℕ, ◌+◌, ◌-◌, ◌≤◌, arith, List, [], ◌∷◌, Some}
use Rattle.tok_lexical.specs.declared.delimiter.Delimiter.TheVariants as delimiter
use Rattle.tok_core.specs.Erase.{erase}
use Rattle.tok_core.specs.Forest.{leaf, group, Forest, no_trees, tree}
use Rattle.tok_core.specs.Weight.{weight}
use Rattle.tok_buffer.specs.Cursors.{spot_place}
use Rattle.tok_buffer.specs.Moves.{end_of, frames_at, frames_in_scope}
use Rattle.tok_buffer.specs.Place.{Frame, frame, Place, empty_place, at}
use Rattle.tok_buffer.specs.Progress.{remaining, remaining_around}
use Rattle.tok_buffer.specs.View.{erased_ahead, erased_in}
use Rattle.tok_buffer.specs.declared.spot.Spot.{Spot}
use Rattle.tok_buffer.proofs.Measured.{IsCounted, spot_measured}
use Rattle.tok_buffer.proofs.View.Marks.{weight-concat}

weight-erase : (f : Forest) → weight (erase f) ≤ weight f
weight-erase no_trees = omega arith
weight-erase (tree (leaf l) f) = omega (arith, weight-erase f)
weight-erase (tree (group delimiter.None inside span) f) =
    omega (arith, weight-erase inside, weight-erase f, weight-concat)
weight-erase (tree (group d inside span) f) = omega (arith, weight-erase inside, weight-erase f)

visible-in : (o : _) (p a : Forest) (ls : List Frame) → weight (erased_in (frame o p a ∷ ls))
    ≤ weight a + remaining_around ls
visible-in o p a [] = omega (arith, weight-concat (erase a) no_trees, weight-erase a)
visible-in o p a (frame q r b ∷ ls) =
    omega (arith, weight-concat, weight-erase a, visible-in q r b ls)

-- what is visible ahead is left
pub visible-left : (p : Place) → weight (erased_ahead p) ≤ remaining p - 1
visible-left empty_place = omega arith
visible-left (at n s c (frame o p a) ls) = omega (arith, visible-in o p a ls)

counted : (n s c : ℕ) (l : Frame) (ls : List Frame) → IsCounted (at n s c l ls)
    → s - c ≡ remaining (at n s c l ls) - 1
counted n s c (frame o p a) ls h = omega (arith, h)

-- what is left of a spot's scope
pub spot-left : (s : Spot) → s.scope - s.position ≡ remaining (spot_place s) - 1
spot-left s =
    let x = frames_at s.buffer.now.forest s.position in
    counted s.buffer.now.number s.scope s.position x.0
    (frames_in_scope (end_of s.position x.0) s.scope x.1)
    (spot_measured (Some s))
