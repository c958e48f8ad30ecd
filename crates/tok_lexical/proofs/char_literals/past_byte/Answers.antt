use Rattle.std.proofs.Common.{◌∙◌, sym}
use Rattle.tok_lexical.proofs.Codes.{byte_escape, byte_plain}
use Rattle.tok_lexical.proofs.char_literals.past_byte.Goals as goal

pub returns-then-first-eq92-clause-finds : goal.returns-then-first-eq92-clause-finds
returns-then-first-eq92-clause-finds c = byte_escape _ _ c.in_ok-first.first _
    c.in_ok-first.ensures.chars c.if-first-eq92.true c.past_escape.ensures.finds

pub returns-then-is_byte-clause-finds : goal.returns-then-is_byte-clause-finds
returns-then-is_byte-clause-finds c = byte_plain _ _ c.in_ok-first.first
    c.in_ok-first.ensures.chars (sym c.is_byte.ensures ∙ c.if-is_byte.true)
