use Rattle.std.proofs.Common.{sym, ◌∙◌}
use Rattle.tok_lexical.proofs.WhiteSpace.{skips_ascii_blanks, skips_more_blanks}
use Rattle.tok_lexical.proofs.classes.past_any_whitespace.Goals as goal

pub returns-then-begins_beyond_ascii-clause-skips :
    goal.returns-then-begins_beyond_ascii-clause-skips
returns-then-begins_beyond_ascii-clause-skips c = skips_more_blanks _ _ _
    c.past_ascii_whitespace-rest.ensures.skips c.past_beyond_ascii.ensures.skips

pub returns-else-begins_beyond_ascii-clause-skips :
    goal.returns-else-begins_beyond_ascii-clause-skips
returns-else-begins_beyond_ascii-clause-skips c = skips_ascii_blanks _ _
    c.past_ascii_whitespace-rest.ensures.skips
    (sym c.begins_beyond_ascii.ensures ∙ c.if-begins_beyond_ascii.false)
