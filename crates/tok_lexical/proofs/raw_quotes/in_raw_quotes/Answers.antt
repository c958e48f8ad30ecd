use Rattle.std.proofs.Common.{◌∙◌, arith, sym}
use Rattle.tok_lexical.proofs.RawQuotes.{quotes_end, quotes_found, quotes_raw}
use Rattle.tok_lexical.proofs.RawStrings.{raw_long, raw_open, raw_unquoted, signs, signs_length}
use Rattle.tok_lexical.proofs.Texts.{some_left}
use Rattle.tok_lexical.proofs.raw_quotes.in_raw_quotes.Goals as goal

pub overflow_sub-start : goal.overflow_sub-start
overflow_sub-start c =
    let whole = quotes_found _ _ c.front_of-hashes.result.now c.in_ok-start.start.now
    c.in_ok-end.end.now c.past_number_signs-quote.ensures c.front_of-hashes.ensures.is
    c.front_of-hashes.utf8 c.in_ok-start.ensures.utf8
    (omega (arith, c.if-hashes-gt-MOST_SIGNS.false)) c.in_ok-start.ensures.chars
    (sym c.is_empty.ensures ∙ c.if-not-is_empty.false) c.in_ok-end.ensures.finds in
    omega (arith, whole.fits)

pub split_at-requires : goal.split_at-requires
split_at-requires c =
    let whole = quotes_found _ _ c.front_of-hashes.result.now c.in_ok-start.start.now
    c.in_ok-end.end.now c.past_number_signs-quote.ensures c.front_of-hashes.ensures.is
    c.front_of-hashes.utf8 c.in_ok-start.ensures.utf8
    (omega (arith, c.if-hashes-gt-MOST_SIGNS.false)) c.in_ok-start.ensures.chars
    (sym c.is_empty.ensures ∙ c.if-not-is_empty.false) c.in_ok-end.ensures.finds in
    whole.boundary

pub returns-clause-reads : goal.returns-clause-reads
returns-clause-reads c =
    let whole = quotes_found _ _ c.front_of-hashes.result.now c.in_ok-start.start.now
    c.in_ok-end.end.now c.past_number_signs-quote.ensures c.front_of-hashes.ensures.is
    c.front_of-hashes.utf8 c.in_ok-start.ensures.utf8
    (omega (arith, c.if-hashes-gt-MOST_SIGNS.false)) c.in_ok-start.ensures.chars
    (sym c.is_empty.ensures ∙ c.if-not-is_empty.false) c.in_ok-end.ensures.finds in
    whole.reads _ c.split_at.ensures.front

pub returns-then-hashes-gt-MOST_SIGNS-clause-reads :
    goal.returns-then-hashes-gt-MOST_SIGNS-clause-reads
returns-then-hashes-gt-MOST_SIGNS-clause-reads c =
    let s = signs _ _ _ c.past_number_signs-quote.ensures c.front_of-hashes.ensures.is in
    let l = signs_length _ c.front_of-hashes.utf8 s.pass in
    λ contents h.
    raw_long _ _ _ s (omega (arith, c.if-hashes-gt-MOST_SIGNS.true)) (quotes_raw _ contents h)

pub returns-in_err-start-clause-reads : goal.returns-in_err-start-clause-reads
returns-in_err-start-clause-reads c =
    let s = signs _ _ _ c.past_number_signs-quote.ensures c.front_of-hashes.ensures.is in
    rw c.from_residual.ensures
    (λ contents h. raw_unquoted _ _ _ s c.in_err-start.ensures.chars (quotes_raw _ contents h))

pub returns-in_err-end-clause-reads : goal.returns-in_err-end-clause-reads
returns-in_err-end-clause-reads c =
    let s = signs _ _ _ c.past_number_signs-quote.ensures c.front_of-hashes.ensures.is in
    rw c.from_residual-in_err-end.ensures
    (λ contents h. raw_open _ _ _ s _ c.in_ok-start.ensures.chars c.in_err-end.ensures.finds
    (quotes_raw _ contents h))

pub returns-then-not-is_empty-clause-reads : goal.returns-then-not-is_empty-clause-reads
returns-then-not-is_empty-clause-reads c =
    let s = signs _ _ _ c.past_number_signs-quote.ensures c.front_of-hashes.ensures.is in
    let (body, cut, m) = c.in_ok-end.ensures.finds in
    λ contents h. some_left c.in_ok-end.end.now c.in_ok-end.ensures.utf8
    (sym c.is_empty.ensures ∙ c.if-not-is_empty.true)
    (quotes_end _ _ _ _ body s c.in_ok-start.ensures.chars m _ contents cut h)
