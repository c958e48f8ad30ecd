use Rattle.std.proofs.Common.{◌∙◌, sym}
use Rattle.std.specs.Str.{chars}
use Rattle.tok_lexical.proofs.Docs.{never_breaks, no_return}
use Rattle.tok_lexical.proofs.comments.has_broken_line.Goals as goal

pub returns-else-returns : goal.returns-else-returns
returns-else-returns c = λ h. c.if-returns.false
    ∙ sym (never_breaks (chars c.args.piece.now) (chars c.args.after.now)
    (no_return c.args.returns (chars c.args.piece.now) h c.if-returns.false))
