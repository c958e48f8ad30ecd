use Rattle.std.proofs.Common.{◌≡◌, ℕ, ◌++◌, List, length, true}
use Rattle.std.specs.Prelude.{◌==◌}
use denote.Text.{Utf8}
use denote.Shadow.{shadow}
use Rattle.std.specs.Str.{chars}
use Rattle.std.specs.List.{list_all}
use Rattle.tok_lexical.proofs.prefixes.past_number_signs.Given as goal

abbrev pub invariant-loop-after : goal.invariant-loop-after
invariant-loop-after l = shadow (Utf8 l.rest)
    × ((front : List ℕ) × (chars l.fn.text ≡ front ++ chars l.rest)
    × (list_all (λ c. c == 35) front ≡ true))

abbrev pub decreases-loop-after : goal.decreases-loop-after
decreases-loop-after l = length l.rest
