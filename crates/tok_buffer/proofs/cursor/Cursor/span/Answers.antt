use Rattle.std.proofs.Common.{arith, ◌∙◌, sym}
use Rattle.tok_buffer.proofs.cursor.Cursor.span.Goals as goal
use Rattle.tok_buffer.proofs.Spots.{spot_before, spot_current}

pub span_at-requires : goal.span_at-requires
span_at-requires c = let s = c.in-Some.spot in omega (arith, spot_before s, s.in_buffer)

pub returns-in-Some : goal.returns-in-Some
returns-in-Some c = rw c.in-Some.is (c.span_at.ensures ∙ sym (spot_current c.in-Some.spot))
