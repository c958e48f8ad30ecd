use Rattle.syn_parse.proofs.Views.{views_decide_words, views_decide_lookaheads}
use Rattle.syn_parse.proofs.laws.views_decide_words.Goals as goal

pub returns-clause-streams : goal.returns-clause-streams
returns-clause-streams c = views_decide_words

pub returns-clause-lookaheads : goal.returns-clause-lookaheads
returns-clause-lookaheads c = views_decide_lookaheads
