use Rattle.std.proofs.Common.{sym}
use Rattle.tok_lexical.specs.Rules.{rules_of}
use Rattle.tok_lexical.specs.declared.rule.Rule.TheVariants.{LineComment}
use Rattle.tok_lexical.specs.declared.rule.Mode.TheVariants.{Plain}
use Rattle.tok_core.proofs.Lexical.Blanks.{blank_line, blank_block, line_front, shorter}
use Rattle.tok_core.proofs.Lexical.Blanks.{shorter_block}
use Rattle.tok_core.proofs.lexer.blanks.past_comment.Goals as goal

pub returns-else-opens_block_doc-clause-blank : goal.returns-else-opens_block_doc-clause-blank
returns-else-opens_block_doc-clause-blank c =
    blank_block c.args.text.now c.in_ok-after.after.now c.in-Some.body.now c.utf8.text
    c.in_ok-after.ensures.chars c.in-Some.ensures.chars
    c.past_block.result c.past_block.ensures.tries c.past_block.ensures.utf8
    (sym c.if-opens_block_doc.ensures)

pub returns-else-opens_block_doc-clause-shorter : goal.returns-else-opens_block_doc-clause-shorter
returns-else-opens_block_doc-clause-shorter c =
    shorter_block c.args.text.now c.in_ok-after.after.now c.in-Some.body.now c.utf8.text
    c.in_ok-after.ensures.chars c.in-Some.ensures.chars
    c.past_block.result c.past_block.ensures.tries c.past_block.ensures.utf8

pub returns-else-opens_line_doc-clause-blank : goal.returns-else-opens_line_doc-clause-blank
returns-else-opens_line_doc-clause-blank c =
    blank_line c.args.text.now c.in_ok-after.after.now c.in_ok-body.body.now
    c.past_line.result.now c.utf8.text c.past_line.utf8
    c.in_ok-after.ensures.chars c.in_ok-body.ensures.chars (sym c.if-opens_line_doc.ensures)
    c.past_line.ensures

pub returns-else-opens_line_doc-clause-shorter : goal.returns-else-opens_line_doc-clause-shorter
returns-else-opens_line_doc-clause-shorter c =
    let d = line_front Plain c.args.text.now c.in_ok-after.after.now c.in_ok-body.body.now
    c.past_line.result.now
    c.in_ok-after.ensures.chars c.in_ok-body.ensures.chars c.past_line.ensures in
    shorter (rules_of Plain) LineComment c.args.text.now c.past_line.result.now d.0 c.utf8.text
    c.past_line.utf8 d.1
