use Rattle.std.proofs.Common.{◌≡◌, [], length}
use denote.Text.{Utf8}
use denote.Shadow.{shadow}
use Rattle.std.specs.Str.{chars}
use Rattle.tok_values.specs.Suffixes.{after_marks}
use Rattle.tok_values.proofs.suffixes.after_marks.Given as goal

abbrev pub invariant-loop-c : goal.invariant-loop-c
invariant-loop-c l =
    shadow (Utf8 l.rest) × shadow (Utf8 l.left)
    × (after_marks (chars l.rest) (chars l.left) ≡ after_marks [] (chars l.fn.text))

abbrev pub decreases-loop-c : goal.decreases-loop-c
decreases-loop-c l = length l.left
