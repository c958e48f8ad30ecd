use Rattle.std.proofs.Common.{◌≡◌, length}
use denote.Text.{Utf8}
use denote.Shadow.{shadow}
use Rattle.std.specs.Str.{chars}
use Rattle.tok_lexical.specs.Contents.{only_zeros}
use Rattle.tok_lexical.proofs.contents.only_zeros.Given as goal

abbrev pub invariant-loop-c : goal.invariant-loop-c
invariant-loop-c l = shadow (Utf8 l.rest)
    × (only_zeros (chars l.fn.text) ≡ only_zeros (chars l.rest))

abbrev pub decreases-loop-c : goal.decreases-loop-c
decreases-loop-c l = length l.rest
