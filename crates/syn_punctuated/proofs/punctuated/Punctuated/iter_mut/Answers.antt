use Rattle.std.proofs.Common.{rules}
use Rattle.syn_punctuated.proofs.PairedUp.{paired-values}
use Rattle.syn_punctuated.specs.Lists.{values_of, separators_of}
use Rattle.syn_punctuated.proofs.punctuated.Punctuated.iter_mut.Goals as goal

pub returns : goal.returns
returns g c =
    let list = c.args.self.now in
    let values = paired-values (values_of list) (separators_of list) in
    record { values = search (rules, values); pairs = search rules }
