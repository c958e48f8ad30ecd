use Rattle.std.proofs.Common.{◌∙◌, sym}
use Rattle.tok_lexical.proofs.FloatTails.{tries_exponent, no_exponent}
use Rattle.tok_lexical.proofs.floats.past_exponent.Goals as goal

pub returns-then-is_exponent-clause-tries : goal.returns-then-is_exponent-clause-tries
returns-then-is_exponent-clause-tries c = tries_exponent _ _ _ (sym c.is_exponent.ensures
    ∙ c.if-is_exponent.true) c.past_first.ensures c.past_signed.ensures.tries

pub returns-else-is_exponent-clause-tries : goal.returns-else-is_exponent-clause-tries
returns-else-is_exponent-clause-tries c =
    no_exponent _ (sym c.is_exponent.ensures ∙ c.if-is_exponent.false)
