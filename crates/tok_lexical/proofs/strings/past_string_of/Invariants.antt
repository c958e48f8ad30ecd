use Rattle.std.proofs.Common.{◌≡◌, ℕ, ◌∷◌, List, length}
use denote.Text.{Utf8}
use denote.Shadow.{shadow}
use Rattle.std.specs.Str.{chars}
use Rattle.tok_lexical.proofs.Units.{Reaches}
use Rattle.tok_lexical.proofs.strings.past_string_of.Given as goal

abbrev pub invariant-loop-after : goal.invariant-loop-after
invariant-loop-after l = shadow (Utf8 l.rest)
    × ((start : List ℕ) × (front : List ℕ) × (chars l.fn.text ≡ 34 ∷ start)
    × Reaches l.contents start (chars l.rest) front)

abbrev pub decreases-loop-after : goal.decreases-loop-after
decreases-loop-after l = length l.rest
