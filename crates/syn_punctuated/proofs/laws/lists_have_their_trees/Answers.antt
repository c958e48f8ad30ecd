use Rattle.syn_punctuated.proofs.TreesPassed.{lists_have_their_trees}
use Rattle.syn_punctuated.proofs.laws.lists_have_their_trees.Goals as goal

pub returns : goal.returns
returns g c = λ values separators. lists_have_their_trees values separators g.T.Parse.parses
    g.P.Parse.parses g.P.Token.peeks
