use Rattle.std.proofs.Common.{◌≡◌, ◌∙◌, ◌∷◌, ap, refl, sym, false, rules, tests}
use Rattle.std.proofs.lemmas.Bool.{eqb-true}
use Rattle.std.specs.Str.{chars}
use Rattle.tok_lexical.proofs.First.{decides_at, decides_last, none_more, none_fits}
use Rattle.tok_lexical.proofs.First.{decides_listed, decides_letter, decides_one, fits_front}
use Rattle.tok_lexical.proofs.First.{decides_line, decides_quote, decides_string, told}
use Rattle.tok_lexical.proofs.First.{last_identifier, last_punct, last_other}
use Rattle.tok_lexical.proofs.Slashes.{decides_alone}
use Rattle.tok_lexical.specs.Private.Starts.{tells}
use Rattle.tok_lexical.specs.Rules.{last_rules}
use Rattle.tok_lexical.specs.declared.rule.Rule.TheVariants.{ByteOrderMark}
use Rattle.tok_lexical.specs.declared.start.Start.TheVariants as start
use Rattle.tok_lexical.proofs.rule.first_rule.Goals as goal

pub returns-in_err-first-clause-tries : goal.returns-in_err-first-clause-tries
returns-in_err-first-clause-tries c =
    rw c.from_residual.ensures (none_fits _ _ _ c.in_err-first.ensures.chars)

pub returns-in-Letter-clause-tries : goal.returns-in-Letter-clause-tries
returns-in-Letter-clause-tries c = decides_letter c.args.mode c.in_ok-first.first _ _
    c.in_ok-first.ensures.chars _ (sym c.of-start.ensures ∙ c.in-Letter.is)
    c.past_continues.ensures

pub returns-in-Punct-clause-tries : goal.returns-in-Punct-clause-tries
returns-in-Punct-clause-tries c = decides_one c.args.mode c.in_ok-first.first _ _
    c.in_ok-first.ensures.chars start.Punct refl (sym c.of-start.ensures ∙ c.in-Punct.is)

pub returns-in-Opening-clause-tries : goal.returns-in-Opening-clause-tries
returns-in-Opening-clause-tries c = decides_one c.args.mode c.in_ok-first.first _ _
    c.in_ok-first.ensures.chars (start.Opening c.in-Opening.delimiter) refl
    (sym c.of-start.ensures ∙ c.in-Opening.is)

pub returns-in-Closing-clause-tries : goal.returns-in-Closing-clause-tries
returns-in-Closing-clause-tries c = decides_one c.args.mode c.in_ok-first.first _ _
    c.in_ok-first.ensures.chars (start.Closing c.in-Closing.delimiter) refl
    (sym c.of-start.ensures ∙ c.in-Closing.is)

pub returns-in-Slash-clause-tries : goal.returns-in-Slash-clause-tries
returns-in-Slash-clause-tries c = decides_alone c.args.mode c.in_ok-first.first _ _
    c.in_ok-first.ensures.chars (sym c.of-start.ensures ∙ c.in-Slash.is)
    (sym c.if-not-begins_comment.ensures)

pub returns-in-Some-clause-tries : goal.returns-in-Some-clause-tries
returns-in-Some-clause-tries c = decides_line c.args.mode c.in_ok-first.first _ _
    c.in_ok-first.ensures.chars _ (sym c.of-start.ensures ∙ c.in-Slash.is)
    c.in-Some.ensures.tries

pub returns-in-Some-past_string-clause-tries : goal.returns-in-Some-past_string-clause-tries
returns-in-Some-past_string-clause-tries c = decides_string c.args.mode c.in_ok-first.first _ _
    c.in_ok-first.ensures.chars _ (sym c.of-start.ensures ∙ c.in-Quote.is)
    c.in-Some-past_string.ensures.tries

pub returns-in-Quote-clause-tries : goal.returns-in-Quote-clause-tries
returns-in-Quote-clause-tries c = decides_quote c.args.mode c.in_ok-first.first _ _
    c.in_ok-first.ensures.chars (sym c.of-start.ensures ∙ c.in-Quote.is)
    c.in_default-past_string.ensures.tries

pub past_apostrophe-requires : goal.past_apostrophe-requires
past_apostrophe-requires c =
    let quote = eqb-true c.in_ok-first.first 39
    (told c.in_ok-first.first start.Apostrophe (sym c.of-start.ensures ∙ c.in-Apostrophe.is)) in
    c.in_ok-first.ensures.chars ∙ ap (λ k. k ∷ chars c.in_ok-first.rest.now) quote

pub returns-in-Apostrophe-clause-tries : goal.returns-in-Apostrophe-clause-tries
returns-in-Apostrophe-clause-tries c = c.past_apostrophe.ensures.fits

pub returns-in-Some-second_told-clause-tries : goal.returns-in-Some-second_told-clause-tries
returns-in-Some-second_told-clause-tries c = c.in-Some-second_told.ensures.fits

pub second_told-requires : goal.second_told-requires
second_told-requires c = (c.in_ok-first.first, c.in_ok-first.ensures.chars, c.of-start.ensures)

pub returns-in-Some-past-clause-tries : goal.returns-in-Some-past-clause-tries
returns-in-Some-past-clause-tries c =
    let untold : tells c.of-start.result ≡ false = search (rules, tests) in
    let tried = c.in-Some-past.ensures.tries in
    let found = decides_at _ _ _ _ _ ByteOrderMark c.loop-rule-test.true c.loop-rule.invariant
    tried.1 in (
      tried.0,
      decides_listed c.args.mode c.in_ok-first.first _ _ _ c.in_ok-first.ensures.chars
          (sym c.of-start.ensures) (c.at-those.ensures untold)
          (fits_front c.at-those.result.now last_rules _ _ _ _ found),
    )

pub loop-rule-preserved : goal.loop-rule-preserved
loop-rule-preserved c = none_more _ _ _ ByteOrderMark c.loop-rule-test.true c.loop-rule.invariant
    c.in_default-past.ensures.tries

pub returns-in-Some-past_identifier-clause-tries : goal.returns-in-Some-past_identifier-clause-tries
returns-in-Some-past_identifier-clause-tries c =
    let untold : tells c.of-start.result ≡ false = search (rules, tests) in
    decides_last _ _ _ _ _ _ _ _ _ c.in_ok-first.ensures.chars (sym c.of-start.ensures)
    (c.at-those.ensures untold) c.loop-rule-test.false c.loop-rule.invariant
    (last_identifier c.in_ok-first.first _ _ c.in_ok-first.ensures.chars _
    c.in-Some-past_identifier.ensures.tries)

pub returns-then-is_punct-clause-tries : goal.returns-then-is_punct-clause-tries
returns-then-is_punct-clause-tries c =
    let untold : tells c.of-start.result ≡ false = search (rules, tests) in
    decides_last _ _ _ _ _ _ _ _ _ c.in_ok-first.ensures.chars (sym c.of-start.ensures)
    (c.at-those.ensures untold) c.loop-rule-test.false c.loop-rule.invariant
    (last_punct c.in_ok-first.first _ _ c.in_ok-first.ensures.chars
    c.in_default-past_identifier.ensures.tries (sym c.if-is_punct.ensures))

pub returns-else-is_punct-clause-tries : goal.returns-else-is_punct-clause-tries
returns-else-is_punct-clause-tries c =
    let untold : tells c.of-start.result ≡ false = search (rules, tests) in
    decides_last _ _ _ _ _ _ _ _ _ c.in_ok-first.ensures.chars (sym c.of-start.ensures)
    (c.at-those.ensures untold) c.loop-rule-test.false c.loop-rule.invariant
    (last_other c.in_ok-first.first _ _ c.in_ok-first.ensures.chars
    c.in_default-past_identifier.ensures.tries (sym c.if-is_punct.ensures))
