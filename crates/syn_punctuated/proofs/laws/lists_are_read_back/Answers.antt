use Rattle.syn_punctuated.proofs.ReadBack.{lists_are_read_back}
use Rattle.syn_punctuated.proofs.laws.lists_are_read_back.Goals as goal

pub returns : goal.returns
returns g c = lists_are_read_back g.T.Parse.parses g.T.ToTokens.printed g.P.Parse.parses
    g.P.ToTokens.printed
