use Rattle.tok_lexical.proofs.Units.{finds_plain, tries_units}
use Rattle.tok_lexical.proofs.strings.past_units.Goals as goal

pub returns-in-Some-clause-finds : goal.returns-in-Some-clause-finds
returns-in-Some-clause-finds c = tries_units c.args.contents _ _ _ c.in-Some.ensures.chars
    c.past_escape_of.ensures.finds

pub returns-else-first-eq34-clause-finds : goal.returns-else-first-eq34-clause-finds
returns-else-first-eq34-clause-finds c = finds_plain c.args.contents _ _ _ c.in_ok-first.first
    c.in_ok-first.ensures.chars c.if-first-eq34.false c.in_default.ensures.chars
    c.past_others.ensures.skips
