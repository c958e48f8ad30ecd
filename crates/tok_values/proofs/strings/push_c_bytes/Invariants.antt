use Rattle.std.proofs.Common.{◌≡◌, ◌++◌, List, ℕ, length}
use denote.Text.{Utf8}
use denote.Shadow.{shadow}
use Rattle.std.specs.Str.{chars}
use Rattle.tok_values.specs.CStrings.{c_unit}
use Rattle.tok_values.specs.Strings.{MeansBy}
use Rattle.tok_values.proofs.strings.push_c_bytes.Given as goal

abbrev pub invariant-loop-after : goal.invariant-loop-after
invariant-loop-after l =
    shadow (Utf8 l.rest)
    × ((bytes : List ℕ) × MeansBy c_unit (chars l.fn.text) (chars l.rest) bytes
    × (l.to.items ≡ l.fn.to.items ++ bytes))

abbrev pub decreases-loop-after : goal.decreases-loop-after
decreases-loop-after l = length l.rest
