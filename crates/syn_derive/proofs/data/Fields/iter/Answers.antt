use Rattle.std.specs.Map.Iter.{deref}
use Rattle.syn_punctuated.proofs.IterRuns.{shows_in_order, shows_in_reverse}
use Rattle.syn_derive.proofs.data.Fields.iter.Goals as goal

pub returns-clause-runs : goal.returns-clause-runs
returns-clause-runs c = shows_in_order deref

pub returns-clause-runs_back : goal.returns-clause-runs_back
returns-clause-runs_back c = shows_in_reverse deref
