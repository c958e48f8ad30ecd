use Rattle.std.proofs.Common.{rules, arith, refl, sym, ◌∙◌}
use Rattle.syn_punctuated.proofs.WithValue.{pair_value_written, last_value_lent, past_end}
use Rattle.syn_punctuated.proofs.punctuated.Punctuated.get_mut.Goals as goal

pub returns-then-index-count : goal.returns-then-index-count
returns-then-index-count g c = (
  (refl, (λ w. pair_value_written c.args.self.now c.args.index w (omega arith)), (refl, refl)),
  record { writes_back = tt; value = search rules },
)

pub returns-then-index-count-2 : goal.returns-then-index-count-2
returns-then-index-count-2 g c = (
  (
    refl,
    (λ w. last_value_lent c.args.self.now c.args.index w c.last_value_mut.result
        (c.if-index-count-2.true ∙ c.len-count.ensures) c.last_value_mut.ensures.value),
    (refl, refl),
  ),
  record { writes_back = tt; value = search rules },
)

pub returns : goal.returns
returns g c = (
  (refl, (λ w. tt), (refl, refl)),
  record { writes_back = tt; value = sym (past_end c.args.self.now c.args.index (omega arith)) },
)
