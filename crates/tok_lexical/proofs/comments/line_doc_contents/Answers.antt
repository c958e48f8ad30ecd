use Rattle.std.specs.Str.{chars}
use Rattle.tok_lexical.proofs.Docs.{no_return, whole_doc_text}
use Rattle.tok_lexical.proofs.comments.line_doc_contents.Goals as goal

pub returns-else-returns : goal.returns-else-returns
returns-else-returns c = λ h.
    rw (
      c.past_first-else-returns-2.ensures,
      c.past_first-else-returns.ensures,
      c.past_first.ensures,
    )
    (whole_doc_text (chars c.args.piece.now)
    (no_return c.args.returns (chars c.args.piece.now) h c.if-returns.false))
