use Rattle.std.proofs.Common.{refl}
use Rattle.syn_punctuated.proofs.WithValue.{pair_written, pair_read}
use Rattle.syn_punctuated.proofs.punctuated.Punctuated.pair_value_mut.Goals as goal

pub returns : goal.returns
returns g c = (
  (
    refl,
    λ w. λ i. record {
      inner =
          pair_written c.args.self.now.inner c.args.index w c.index_mut.result.now c.requires
          c.index_mut.ensures.value i;
      last = c.args.self.now.last;
    },
  ),
  record {
    writes_back =
        tt;
    value =
        pair_read c.args.self.now c.args.index c.index_mut.result.now c.requires
        c.index_mut.ensures.value;
  },
)
