use Rattle.tok_lexical.proofs.Digits.{based_tries}
use Rattle.tok_lexical.proofs.numbers.past_based.Goals as goal

pub returns-clause-tries : goal.returns-clause-tries
returns-clause-tries c = based_tries c.args.base _ _ _ _ _ c.mark.ensures
    c.in_ok-digits.ensures.chars c.radix.ensures.value c.past_in_base.ensures.tries
