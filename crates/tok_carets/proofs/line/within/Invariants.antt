use Rattle.std.proofs.Common.{◌≡◌, ◌++◌, ℕ, List, length}
use denote.Text.{Utf8}
use denote.Shadow.{shadow}
use Rattle.std.specs.Str.{chars}
use Rattle.tok_carets.specs.Lines.{within}
use Rattle.tok_carets.proofs.line.within.Given as goal

abbrev pub invariant-loop-c : goal.invariant-loop-c
invariant-loop-c l =
    shadow (Utf8 l.rest)
    × ((front : List ℕ) × (chars l.fn.text ≡ front ++ chars l.rest)
    × (within l.fn.bytes (chars l.fn.text) ≡ front ++ within l.left (chars l.rest)))

abbrev pub decreases-loop-c : goal.decreases-loop-c
decreases-loop-c l = length l.rest
