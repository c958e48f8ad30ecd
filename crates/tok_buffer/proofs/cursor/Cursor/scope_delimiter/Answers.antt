use Rattle.std.proofs.Common.{◌∙◌, sym, ap}
use Rattle.tok_buffer.proofs.Enclosing.{scope_ends, scope_enclosing}
use Rattle.tok_buffer.proofs.cursor.Cursor.scope_delimiter.Goals as goal

pub enclosing_at-requires-clause-is_end : goal.enclosing_at-requires-clause-is_end
enclosing_at-requires-clause-is_end c =
    let s = c.in-Some.spot in scope_ends s.buffer.now.forest s.position s.scope s.within

pub returns-in-Some : goal.returns-in-Some
returns-in-Some c =
    let s = c.in-Some.spot in
    rw c.in-Some.is (ap (λ r. r.0) c.enclosing_at.ensures
    ∙ sym (scope_enclosing s.buffer.now.number s.buffer.now.forest s.position s.scope s.within))
