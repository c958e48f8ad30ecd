use Rattle.tok_lexical.proofs.Decimals.{takes_plain}
use Rattle.tok_lexical.proofs.numbers.past_decimal.Goals as goal

pub returns-clause-tries : goal.returns-clause-tries
returns-clause-tries c = takes_plain _ _ _ c.in_ok-rest.ensures.digits.1.1
    c.in_ok-rest.ensures.digits.0 _ _ c.past_number_suffix.ensures.1
