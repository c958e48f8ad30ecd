use Rattle.syn_punctuated.proofs.TreesPassed.{idents_state_trees, punctuations_state_trees}
use Rattle.syn_punctuated.proofs.laws.tokens_state_trees.Goals as goal

pub returns-clause-idents : goal.returns-clause-idents
returns-clause-idents g c = idents_state_trees

pub returns-clause-punctuations : goal.returns-clause-punctuations
returns-clause-punctuations g c = punctuations_state_trees g.row.K g.row.N
