use Rattle.std.proofs.Common.{length}
use denote.Text.{Utf8}
use denote.Shadow.{shadow}
use Rattle.std.specs.Str.{chars}
use Rattle.tok_lexical.proofs.Codes.{Counts}
use Rattle.tok_lexical.proofs.escapes.names_char.Given as goal

abbrev pub invariant-loop-c : goal.invariant-loop-c
invariant-loop-c l = shadow (Utf8 l.rest) × Counts (chars l.fn.digits) (chars l.rest) l.value
    l.count

abbrev pub decreases-loop-c : goal.decreases-loop-c
decreases-loop-c l = length l.rest
