use Rattle.std.proofs.Common.{◌-◌, ◌≤◌, length}
use denote.Text.{Utf8}
use denote.Shadow.{shadow}
use Rattle.std.specs.Str.{chars}
use Rattle.tok_core.specs.Private.Built.{IsBlank}
use Rattle.tok_core.proofs.lexer.blanks.past_comments.Given as goal

abbrev pub invariant-loop-next : goal.invariant-loop-next
invariant-loop-next l = shadow (Utf8 l.rest) × (length l.rest ≤ length l.text)
    × IsBlank (chars l.text) (chars l.rest) (length l.text - length l.rest)

abbrev pub decreases-loop-next : goal.decreases-loop-next
decreases-loop-next l = length l.rest
