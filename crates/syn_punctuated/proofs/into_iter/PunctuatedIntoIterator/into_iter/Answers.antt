use Rattle.std.proofs.Common.{rules}
use Rattle.syn_punctuated.proofs.IterRuns.{gives_in_order, gives_in_reverse}
use Rattle.syn_punctuated.proofs.PairedUp.{paired-values}
use Rattle.syn_punctuated.specs.Lists.{values_of, separators_of}
use Rattle.syn_punctuated.proofs.into_iter.PunctuatedIntoIterator.into_iter.Goals as goal

pub returns : goal.returns
returns g c =
    let list = c.args.self in
    let values = paired-values (values_of list) (separators_of list) in
    record { into_iter_gives = (search (rules, values), gives_in_order, gives_in_reverse) }
