use Rattle.std.proofs.Common.{sym, ◌∙◌}
use Rattle.tok_core.specs.Private.Alikes.{alike_decides}
use Rattle.tok_core.proofs.tt.TokenStreamHelperPartialEq.eq.Goals as goal

pub returns-clause-spanless : goal.returns-clause-spanless
returns-clause-spanless c =
    let d = alike_decides c.args.self.now.0.now c.args.other.now.0.now in
    (λ h. d.0 (sym c.are_alike.ensures ∙ h), λ e. c.are_alike.ensures ∙ d.1 e)
