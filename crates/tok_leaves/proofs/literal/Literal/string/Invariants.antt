use Rattle.std.proofs.Common.{◌≡◌, ◌++◌, IsUtf8, length, string_bytes}
use Rattle.std.specs.List.{flat_map}
use Rattle.std.specs.Str.{chars}
use Rattle.std.specs.Prelude.{codes}
use Rattle.tok_leaves.specs.Quoting.{escaped}
use Rattle.tok_leaves.proofs.literal.Literal.string.Given as goal

abbrev pub invariant-loop-c : goal.invariant-loop-c
invariant-loop-c l =
    IsUtf8 l.rest
    × (string_bytes l.out ++ flat_map escaped (chars l.rest) ≡ codes "\""
    ++ flat_map escaped (chars l.fn.text))

abbrev pub decreases-loop-c : goal.decreases-loop-c
decreases-loop-c l = length l.rest
