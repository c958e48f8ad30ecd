use Rattle.std.proofs.Common.{◌∙◌}
use Rattle.std.specs.Str.{chars}
use Rattle.tok_lexical.proofs.BareReturns.{text_unfit}
use Rattle.tok_lexical.proofs.contents.is_unfit.Goals as goal

pub returns-in-Text : goal.returns-in-Text
returns-in-Text c = λ h.
    rw c.in-Text.is (c.has_bare_return.ensures h ∙ text_unfit (chars c.args.piece.now))
