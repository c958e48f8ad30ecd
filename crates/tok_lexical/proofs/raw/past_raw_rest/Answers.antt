use Rattle.std.proofs.Common.{arith}
use Rattle.tok_lexical.proofs.RawStrings.{raw_long, raw_unquoted, raw_open, takes_raw, signs}
use Rattle.tok_lexical.proofs.RawStrings.{signs_length}
use Rattle.tok_lexical.proofs.raw.past_raw_rest.Goals as goal

pub returns-clause-tries : goal.returns-clause-tries
returns-clause-tries c =
    let s = signs _ _ _ c.past_number_signs-quote.ensures c.front_of-hashes.ensures.is in
    let l = signs_length _ c.front_of-hashes.utf8 s.pass in
    takes_raw _ _ _ s _ _ _ _ _ (omega (arith, c.if-hashes-gt-MOST_SIGNS.false))
    c.in_ok-start.ensures.chars c.in_ok-end.ensures.finds.1
    c.in_ok-end.ensures.finds.2 c.past_suffix.ensures.1

pub returns-then-hashes-gt-MOST_SIGNS-clause-tries :
    goal.returns-then-hashes-gt-MOST_SIGNS-clause-tries
returns-then-hashes-gt-MOST_SIGNS-clause-tries c =
    let s = signs _ _ _ c.past_number_signs-quote.ensures c.front_of-hashes.ensures.is in
    let l = signs_length _ c.front_of-hashes.utf8 s.pass in
    raw_long _ _ _ s (omega (arith, c.if-hashes-gt-MOST_SIGNS.true))

pub returns-in_err-start-clause-tries : goal.returns-in_err-start-clause-tries
returns-in_err-start-clause-tries c =
    let s = signs _ _ _ c.past_number_signs-quote.ensures c.front_of-hashes.ensures.is in
    rw c.from_residual.ensures
    (raw_unquoted _ _ _ s c.in_err-start.ensures.chars)

pub returns-in_err-end-clause-tries : goal.returns-in_err-end-clause-tries
returns-in_err-end-clause-tries c =
    let s = signs _ _ _ c.past_number_signs-quote.ensures c.front_of-hashes.ensures.is in
    rw c.from_residual-in_err-end.ensures
    (raw_open _ _ _ s _ c.in_ok-start.ensures.chars c.in_err-end.ensures.finds)
