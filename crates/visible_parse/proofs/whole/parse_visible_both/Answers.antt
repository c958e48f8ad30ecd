use Rattle.visible_parse.proofs.Visible.{both_agree, both_say}
use Rattle.visible_parse.proofs.whole.parse_visible_both.Goals as goal

pub returns-clause-agree : goal.returns-clause-agree
returns-clause-agree g c =
    both_agree g.T.Parse.takes c.args.left c.args.right c.parse_visible.result
    c.parse_visible-2.result c.parse_visible.ensures.takes c.parse_visible-2.ensures.takes

pub returns-clause-words : goal.returns-clause-words
returns-clause-words g c =
    both_say g.T.Parse.takes c.args.left c.args.right c.parse_visible.result
    c.parse_visible-2.result c.parse_visible.ensures.takes c.parse_visible-2.ensures.takes
