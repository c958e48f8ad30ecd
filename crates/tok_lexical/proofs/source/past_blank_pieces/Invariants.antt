use Rattle.std.proofs.Common.{length}
use denote.Text.{Utf8}
use denote.Shadow.{shadow}
use Rattle.std.specs.Str.{chars}
use Rattle.tok_lexical.specs.Sources.{Blanks}
use Rattle.tok_lexical.proofs.source.past_blank_pieces.Given as goal

abbrev pub invariant-loop-rule : goal.invariant-loop-rule
invariant-loop-rule l = shadow (Utf8 l.rest) × Blanks (chars l.fn.text) (chars l.rest)

abbrev pub decreases-loop-rule : goal.decreases-loop-rule
decreases-loop-rule l = length l.rest
