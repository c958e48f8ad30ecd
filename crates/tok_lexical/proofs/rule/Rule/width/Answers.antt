use Rattle.std.proofs.lemmas.Grind.{common_steps}
use Rattle.std.proofs.Common.{◌∙◌, sym, arith}
use Rattle.tok_lexical.proofs.Texts.{width_plain}
use Rattle.tok_lexical.proofs.rule.Rule.width.Goals as goal

pub returns-then-is_group_mark : goal.returns-then-is_group_mark
returns-then-is_group_mark c = grind (arith, common_steps)

pub returns-else-is_group_mark : goal.returns-else-is_group_mark
returns-else-is_group_mark c = width_plain c.args.self _ c.utf8.piece
    (sym c.is_group_mark.ensures ∙ c.if-is_group_mark.false)
