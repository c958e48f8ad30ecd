use Rattle.std.proofs.Common.{◌∙◌, sym}
use Rattle.std.specs.Str.{chars}
use Rattle.tok_lexical.proofs.BareReturns.{none_bare}
use Rattle.tok_lexical.proofs.contents.has_bare_return.Goals as goal

pub returns-else-returns : goal.returns-else-returns
returns-else-returns c = λ h. c.if-returns.false
    ∙ sym (none_bare (chars c.args.text.now) c.args.returns h c.if-returns.false)
