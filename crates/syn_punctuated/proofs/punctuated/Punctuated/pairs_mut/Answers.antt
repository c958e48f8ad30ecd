use Rattle.std.proofs.Common.{rules}
use Rattle.syn_punctuated.specs.Private.Boxes.{boxed_values}
use Rattle.syn_punctuated.proofs.PairedUp.{paired_up}
use Rattle.syn_punctuated.proofs.punctuated.Punctuated.pairs_mut.Goals as goal

pub returns : goal.returns
returns g c =
    let list = c.args.self.now in
    let all = paired_up list.inner.items (boxed_values list.last) in
    search (rules, all)
