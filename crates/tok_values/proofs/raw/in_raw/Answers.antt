use Rattle.tok_values.proofs.RawStrings.{raw_value}
use Rattle.tok_values.proofs.raw.in_raw.Goals as goal

pub returns-clause-value : goal.returns-clause-value
returns-clause-value c =
    raw_value _ _ c.in_ok-quoted.ensures.chars c.in_raw_quotes.result
    c.in_raw_quotes.ensures.utf8 c.in_raw_quotes.ensures.reads

pub returns-in_err-quoted-clause-value : goal.returns-in_err-quoted-clause-value
returns-in_err-quoted-clause-value c =
    rw c.from_residual.ensures (λ value h. c.in_err-quoted.ensures.chars h.0 h.1)
