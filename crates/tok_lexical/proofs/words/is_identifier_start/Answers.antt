use Rattle.std.proofs.Common.{◌∙◌, sym, true, false}
use Rattle.tok_lexical.proofs.Identifiers.{letter_start}
use Rattle.tok_lexical.proofs.words.is_identifier_start.Goals as goal

pub returns-then-is_ascii_alphabetic : goal.returns-then-is_ascii_alphabetic
returns-then-is_ascii_alphabetic c = c.if-is_ascii_alphabetic.true
    ∙ letter_start c.args.c c.if-c-lt128.true true (sym c.if-is_ascii_alphabetic.true
    ∙ c.is_ascii_alphabetic.ensures.value)

pub returns-else-is_ascii_alphabetic : goal.returns-else-is_ascii_alphabetic
returns-else-is_ascii_alphabetic c = letter_start c.args.c c.if-c-lt128.true false
    (sym c.if-is_ascii_alphabetic.false ∙ c.is_ascii_alphabetic.ensures.value)
