use Rattle.visible_parse.proofs.Visible.{keeps_visible}
use Rattle.visible_parse.proofs.whole.parse_visible.Goals as goal

pub returns-clause-takes : goal.returns-clause-takes
returns-clause-takes g c =
    keeps_visible g.T.Parse.takes c.args.tokens c.parse2.result
    (rw c.in_ok-filled.ensures.prunes at c.parse2.ensures.takes)
