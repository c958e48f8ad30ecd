use Rattle.arguments.specs.Results.{Agree, ParsesTo}
use Rattle.visible_arguments.proofs.Visible.{if_agree, if_prunes}
use Rattle.visible_arguments.proofs.read.visible_arguments_both.Goals as goal

pub returns-clause-left : goal.returns-clause-left
returns-clause-left c =
    if_prunes (λ x both. ParsesTo x both.0) c.arguments_both.result c.args.left
    c.in_ok-first.first c.in_ok-first.ensures.prunes c.arguments_both.ensures.left

pub returns-clause-right : goal.returns-clause-right
returns-clause-right c =
    if_prunes (λ x both. ParsesTo x both.1) c.arguments_both.result c.args.right
    c.in_ok-second.second c.in_ok-second.ensures.prunes c.arguments_both.ensures.right

pub returns-clause-agree : goal.returns-clause-agree
returns-clause-agree c =
    if_agree (λ both. Agree both.0 both.1) c.arguments_both.result c.args.left c.in_ok-first.first
    c.args.right c.in_ok-second.second c.in_ok-first.ensures.prunes c.in_ok-second.ensures.prunes
    c.arguments_both.ensures.agree
