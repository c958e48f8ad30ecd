use Rattle.tok_core.proofs.Lexical.Blanks.{blank_more, blank_spaces}
use Rattle.tok_core.proofs.lexer.blanks.past_blanks.Goals as goal

pub returns-in_default-clause-blank : goal.returns-in_default-clause-blank
returns-in_default-clause-blank c = blank_spaces c.args.text.now
    c.past_whitespace-rest.result.now c.utf8.text c.past_whitespace-rest.utf8
    c.past_whitespace-rest.ensures.skips

pub returns-in-Some-eq47-clause-blank : goal.returns-in-Some-eq47-clause-blank
returns-in-Some-eq47-clause-blank c =
    blank_more c.args.text.now c.past_whitespace-rest.result.now c.past_comments.result.now
    c.past_comments.ensures.shorter c.past_whitespace-rest.ensures.shorter
    (blank_spaces c.args.text.now c.past_whitespace-rest.result.now c.utf8.text
    c.past_whitespace-rest.utf8 c.past_whitespace-rest.ensures.skips)
    c.past_comments.ensures.blank

pub returns-in_default-2-clause-blank : goal.returns-in_default-2-clause-blank
returns-in_default-2-clause-blank c = blank_spaces c.args.text.now
    c.past_whitespace-rest.result.now c.utf8.text c.past_whitespace-rest.utf8
    c.past_whitespace-rest.ensures.skips
