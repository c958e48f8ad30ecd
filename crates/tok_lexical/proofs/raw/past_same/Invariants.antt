use Rattle.std.proofs.Common.{◌≡◌, ℕ, ◌++◌, List, length}
use denote.Text.{Utf8}
use denote.Shadow.{shadow}
use Rattle.std.specs.Str.{chars}
use Rattle.tok_lexical.proofs.raw.past_same.Given as goal

abbrev pub invariant-loop-wanted : goal.invariant-loop-wanted
invariant-loop-wanted l = shadow (Utf8 l.rest) × shadow (Utf8 l.left)
    × ((done : List ℕ) × (chars l.fn.text ≡ done ++ chars l.rest)
    × (chars l.fn.front ≡ done ++ chars l.left))

abbrev pub decreases-loop-wanted : goal.decreases-loop-wanted
decreases-loop-wanted l = length l.left
