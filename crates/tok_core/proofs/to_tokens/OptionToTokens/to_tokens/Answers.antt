use Rattle.std.proofs.Common.{◌∙◌, ap, sym}
use Rattle.tok_core.specs.Forest.{concat}
use Rattle.tok_core.specs.Laws.{optional_trees}
use Rattle.tok_core.proofs.Facts.{concat-none}
use Rattle.tok_core.proofs.to_tokens.OptionToTokens.to_tokens.Goals as goal

pub returns-in-None-clause-ok : goal.returns-in-None-clause-ok
returns-in-None-clause-ok g c =
    sym (ap (λ v. concat c.args.tokens.now (optional_trees g.T.ToTokens.printed v)) c.in-None.is
    ∙ concat-none c.args.tokens.now)
