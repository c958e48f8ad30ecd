-- Progress takes something away from what remains.
use Rattle.std.proofs.Common.{◌≡◌, ℕ, ◌<◌, ◌≤◌, true, false, Bool}
use Rattle.std.proofs.Common.{◌&&◌, ◌||◌, arith}
use Rattle.std.proofs.Common.{Some, None}
use Rattle.std.proofs.lemmas.Bool.{or_cases, and_parts, false≢true}
use Rattle.std.specs.Prelude.{cond, ◌==◌}
use Rattle.std.specs.declared.cmp.Ordering.{Ordering}
use Rattle.std.specs.Ordering.{is_lt, is_le, is_some_and, nat_cmp}
use Rattle.tok_buffer.specs.Order.{equal, same_scope}
use Rattle.tok_buffer.specs.Place.{Place}
use Rattle.tok_buffer.specs.Progress.{LosesNone, StaysIn, remaining}
use Rattle.syn_punctuated.specs.Progress.{progresses}

-- what a comparison says of an earlier count
record Earlier (c d : ℕ) (o : Ordering) : Type 0 where
  less : c < d
  at_most : is_le o ≡ true

earlier : (c d : ℕ) → is_lt (nat_cmp c d) ≡ true → Earlier c d (nat_cmp c d)
earlier c d h = grind (arith, false≢true)

in_order : (same : Bool) (o : Ordering) → is_some_and is_lt (cond same (Some o) None) ≡ true
    → (same ≡ true) × (is_lt o ≡ true)
in_order same o h = grind (arith, false≢true)

still_in_order : (same : Bool) (o : Ordering) → same ≡ true → is_le o ≡ true
    → is_some_and is_le (cond same (Some o) None) ≡ true
still_in_order same o e h = grind (arith, false≢true)

other_count : (n m c d : ℕ) → c < d → (n == m && c == d) ≡ false
other_count n m c d l = grind arith

moves_in_scope : (from to : Place) → progresses from to ≡ true → StaysIn from to
    × (equal from to ≡ false)
moves_in_scope from to h =
    grind (arith, false≢true, or_cases, and_parts, in_order, earlier, still_in_order, other_count)

pub lowers : (from to : Place) → LosesNone from to → progresses from to ≡ true
    → remaining to < remaining from
lowers from to loses h = let m = moves_in_scope from to h in (loses m.0).1 m.1

-- without progress nothing less is left
not_less : (c d : ℕ) → is_lt (nat_cmp c d) ≡ false → d ≤ c
not_less c d h = grind (arith, false≢true)

at_most : (d c : ℕ) → d ≤ c → is_le (nat_cmp d c) ≡ true
at_most d c l = grind arith

progress_in : (a b : Bool) (o : Ordering) → a ≡ true → b ≡ true → is_lt o ≡ true
    → (((a && b) && is_some_and is_lt (cond a (Some o) None)) || false) ≡ true
progress_in a b o x y h = grind (arith, false≢true)

pub keeps_all : (from to : Place) → LosesNone to from → progresses from to ≡ false
    → same_scope from to ≡ true → remaining from ≤ remaining to
keeps_all from to e h k =
    grind (arith, false≢true, and_parts, still_in_order, at_most, progress_in, not_less)
