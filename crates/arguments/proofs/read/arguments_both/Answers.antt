use Rattle.std.proofs.lemmas.Grind.{common_steps}
use Rattle.std.proofs.Common.{arith, subst}
use Rattle.arguments.proofs.Outcomes.{Taken, agree, kept_is, parses_to}
use Rattle.arguments.proofs.read.arguments_both.Goals as goal

pub returns-clause-left_value : goal.returns-clause-left_value
returns-clause-left_value c = grind (arith, common_steps, kept_is)

pub returns-clause-right_value : goal.returns-clause-right_value
returns-clause-right_value c = grind (arith, common_steps, kept_is)

pub returns-clause-left : goal.returns-clause-left
returns-clause-left c i =
    parses_to c.args.left c.in_ok-left.left i
    (subst (Taken c.args.left) c.in_ok-left.ensures (c.parse_whole.ensures.keeps i))

pub returns-clause-right : goal.returns-clause-right
returns-clause-right c i = grind (arith, common_steps, parses_to)

pub returns-clause-agree : goal.returns-clause-agree
returns-clause-agree c i j e =
    agree c.args.left c.args.right e i j c.in_ok-left.left c.in_ok-right.right
    (subst (Taken c.args.left) c.in_ok-left.ensures (c.parse_whole.ensures.keeps i))
    (subst (Taken c.args.right) c.in_ok-right.ensures
    (c.parse_whole-2.ensures.keeps j))
