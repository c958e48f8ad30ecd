use Rattle.arguments.specs.Results.{Parses, SaysWhy}
use Rattle.visible_arguments.proofs.Visible.{prunes, visible}
use Rattle.visible_arguments.proofs.read.visible_arguments.Goals as goal

pub returns-clause-parses : goal.returns-clause-parses
returns-clause-parses c =
    visible (λ x. Parses x c.parse_arguments.result) c.args.tokens c.in_ok-filled.filled
    c.in_ok-filled.ensures.prunes
    c.parse_arguments.ensures.parses

pub returns-clause-says : goal.returns-clause-says
returns-clause-says c =
    prunes (λ x. SaysWhy x c.parse_arguments.result) c.args.tokens c.in_ok-filled.filled
    c.in_ok-filled.ensures.prunes
    c.parse_arguments.ensures.says
