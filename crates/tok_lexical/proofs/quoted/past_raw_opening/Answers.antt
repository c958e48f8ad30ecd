use Rattle.tok_lexical.proofs.QuotedFaults.{opens_by_quote}
use Rattle.tok_lexical.proofs.quoted.past_raw_opening.Goals as goal

pub returns-in_err-rest-clause-opens : goal.returns-in_err-rest-clause-opens
returns-in_err-rest-clause-opens c =
    let (kind, letters) = c.in_ok-signs.ensures.letters in
    let (front, signs) = c.past_number_signs-quote.ensures in
    rw c.from_residual-in_err-rest.ensures
    (opens_by_quote _ _ front _ kind letters signs c.in_err-rest.ensures.chars)
