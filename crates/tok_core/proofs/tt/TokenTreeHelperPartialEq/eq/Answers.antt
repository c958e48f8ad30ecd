use Rattle.std.proofs.Common.{sym, ◌∙◌}
use Rattle.tok_core.specs.Private.Alikes.{tree_alike_decides}
use Rattle.tok_core.specs.Seen.{tree_of}
use Rattle.tok_core.proofs.tt.TokenTreeHelperPartialEq.eq.Goals as goal

pub returns-clause-spanless : goal.returns-clause-spanless
returns-clause-spanless c =
    let d = tree_alike_decides (tree_of c.args.self.now.0.now) (tree_of c.args.other.now.0.now) in
    (λ h. d.0 (sym c.is_alike.ensures ∙ h), λ e. c.is_alike.ensures ∙ d.1 e)
