use Rattle.std.proofs.Common.{◌∙◌, sym, ap, not, rules}
use Rattle.tok_buffer.specs.Cursors.{place_of}
use Rattle.tok_buffer.proofs.Peeks.{no_keyword, keyword_word}
use Rattle.tok_buffer.proofs.cursor.Cursor.peek_keyword.Goals as goal

pub returns-then-not-is_empty : goal.returns-then-not-is_empty
returns-then-not-is_empty c =
    rw (keyword_word c.args.text.now (place_of c.args.self) (sym c.is_empty.ensures
    ∙ c.if-not-is_empty.true)) (search rules)

pub returns-else-not-is_empty : goal.returns-else-not-is_empty
returns-else-not-is_empty c =
    ap not c.if-not-is_empty.false
    ∙ sym (no_keyword c.args.text.now (place_of c.args.self) (sym c.is_empty.ensures
    ∙ c.if-not-is_empty.false))
