use Rattle.std.proofs.Common.{◌∙◌, ◌∷◌, ap, sym}
use Rattle.std.specs.Prelude.{Some, true, false}
use Rattle.tok_lexical.proofs.Longest.{tries_pair}
use Rattle.tok_lexical.proofs.Seconds.{decides_bad_escaped, decides_char, decides_escaped}
use Rattle.tok_lexical.proofs.Seconds.{decides_lifetime, decides_lone_quote, decides_plain_lifetime}
use Rattle.tok_lexical.proofs.rule.past_apostrophe.Goals as goal

pub returns-in-Some-past_escaped_char-clause-fits :
    goal.returns-in-Some-past_escaped_char-clause-fits
returns-in-Some-past_escaped_char-clause-fits c =
    decides_escaped c.args.mode _ _ c.requires _ c.in-Some-past_escaped_char.ensures.tries

pub returns-in-None-clause-fits : goal.returns-in-None-clause-fits
returns-in-None-clause-fits c =
    decides_bad_escaped c.args.mode _ _ c.requires _ c.in-None.ensures.tries
    (tries_pair 39 92 _ (Some c.in-Some.after)
    (c.requires ∙ ap (λ w. 39 ∷ w) c.in-Some.ensures.chars))

pub returns-in-Some-past_plain_char-clause-fits : goal.returns-in-Some-past_plain_char-clause-fits
returns-in-Some-past_plain_char-clause-fits c =
    decides_char c.args.mode _ _ c.requires c.in_default.ensures.chars _
    c.in-Some-past_plain_char.ensures.tries

pub returns-in-Some-past_lifetime-clause-fits : goal.returns-in-Some-past_lifetime-clause-fits
returns-in-Some-past_lifetime-clause-fits c =
    decides_lifetime c.args.mode _ _ c.requires c.in_default.ensures.chars
    c.in_default-past_plain_char.ensures.tries _ (sym c.if-has_raw_lifetimes.ensures)
    c.in-Some-past_lifetime.ensures.tries

pub returns-in-None-past_lifetime-clause-fits : goal.returns-in-None-past_lifetime-clause-fits
returns-in-None-past_lifetime-clause-fits c =
    decides_lone_quote c.args.mode _ _ c.requires c.in_default.ensures.chars
    c.in_default-past_plain_char.ensures.tries true (sym c.if-has_raw_lifetimes.ensures)
    c.in-None-past_lifetime.ensures.tries

pub returns-in-Some-past_plain_lifetime-clause-fits :
    goal.returns-in-Some-past_plain_lifetime-clause-fits
returns-in-Some-past_plain_lifetime-clause-fits c =
    decides_plain_lifetime c.args.mode _ _ c.requires c.in_default.ensures.chars
    c.in_default-past_plain_char.ensures.tries _ (sym c.if-has_raw_lifetimes.ensures)
    c.in-Some-past_plain_lifetime.ensures.tries

pub returns-in-None-past_plain_lifetime-clause-fits :
    goal.returns-in-None-past_plain_lifetime-clause-fits
returns-in-None-past_plain_lifetime-clause-fits c =
    decides_lone_quote c.args.mode _ _ c.requires c.in_default.ensures.chars
    c.in_default-past_plain_char.ensures.tries false (sym c.if-has_raw_lifetimes.ensures)
    c.in-None-past_plain_lifetime.ensures.tries
