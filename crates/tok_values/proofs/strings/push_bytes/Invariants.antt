use Rattle.std.proofs.Common.{◌≡◌, ◌++◌, List, ℕ, true, length}
use denote.Text.{Utf8}
use denote.Shadow.{shadow}
use Rattle.std.specs.Str.{chars}
use Rattle.tok_values.specs.Strings.{Means}
use Rattle.tok_values.proofs.strings.push_bytes.Given as goal

abbrev pub invariant-loop-c : goal.invariant-loop-c
invariant-loop-c l =
    shadow (Utf8 l.rest)
    × ((bytes : List ℕ) × Means true (chars l.fn.text) (chars l.rest) bytes
    × (l.to.items ≡ l.fn.to.items ++ bytes))

abbrev pub decreases-loop-c : goal.decreases-loop-c
decreases-loop-c l = length l.rest
