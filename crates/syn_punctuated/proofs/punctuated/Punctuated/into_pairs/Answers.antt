use Rattle.std.proofs.Common.{ap, ◌∙◌, map, ◌++◌}
use Rattle.syn_punctuated.proofs.IterRuns.{gives_in_order, gives_in_reverse}
use Rattle.syn_punctuated.specs.Private.Boxes.{boxed_values}
use Rattle.syn_punctuated.specs.Pairs.{pair_of, end_of}
use Rattle.syn_punctuated.proofs.PairedUp.{paired_up}
use Rattle.syn_punctuated.proofs.punctuated.Punctuated.into_pairs.Goals as goal

pub returns-clause-rest : goal.returns-clause-rest
returns-clause-rest g c =
    let list = c.args.self in
    ap (λ items. map pair_of items ++ map end_of (boxed_values list.last)) c.from_vec.ensures.items
    ∙ paired_up list.inner.items (boxed_values list.last)

pub returns-clause-runs : goal.returns-clause-runs
returns-clause-runs g c = gives_in_order

pub returns-clause-runs_back : goal.returns-clause-runs_back
returns-clause-runs_back g c = gives_in_reverse
