use Rattle.std.proofs.Common.{sym}
use Rattle.tok_lexical.proofs.Longest.{skips_nothing, skips_first_space}
use Rattle.tok_lexical.proofs.classes.past_whitespace.Goals as goal

pub returns-then-begins_visibly-clause-skips : goal.returns-then-begins_visibly-clause-skips
returns-then-begins_visibly-clause-skips c = skips_first_space c.args.text c.past_char.result
    c.unwrap_or-rest.result _ c.unwrap_or-rest.ensures c.past_char.ensures.chars
    (skips_nothing _ (sym c.if-begins_visibly.ensures))

pub returns-else-begins_visibly-clause-skips : goal.returns-else-begins_visibly-clause-skips
returns-else-begins_visibly-clause-skips c = skips_first_space c.args.text c.past_char.result
    c.unwrap_or-rest.result _ c.unwrap_or-rest.ensures c.past_char.ensures.chars
    c.past_any_whitespace.ensures.skips
