use Rattle.std.proofs.Common.{rules}
use Rattle.syn_punctuated.proofs.IterRuns.{shows_in_order, shows_in_reverse}
use Rattle.syn_punctuated.specs.Private.Boxes.{boxed_values}
use Rattle.syn_punctuated.specs.Pairs.{deref_both}
use Rattle.syn_punctuated.proofs.PairedUp.{paired_up}
use Rattle.syn_punctuated.proofs.punctuated.Punctuated.pairs.Goals as goal

pub returns-clause-rest : goal.returns-clause-rest
returns-clause-rest g c =
    let list = c.args.self.now in
    let all = paired_up list.inner.items (boxed_values list.last) in
    search (rules, all)

pub returns-clause-runs : goal.returns-clause-runs
returns-clause-runs g c = shows_in_order deref_both

pub returns-clause-runs_back : goal.returns-clause-runs_back
returns-clause-runs_back g c = shows_in_reverse deref_both
