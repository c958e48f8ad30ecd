use Rattle.tok_lexical.proofs.Sources.{not_begun, is_attribute, line_after}
use Rattle.tok_lexical.proofs.source.past_shebang.Goals as goal

pub returns-in_default : goal.returns-in_default
returns-in_default c = not_begun _ c.in_default.ensures.chars

pub returns-then-opens_attribute : goal.returns-then-opens_attribute
returns-then-opens_attribute c = is_attribute _ _ c.in-Some.ensures.chars
    c.if-opens_attribute.ensures

pub returns-else-opens_attribute : goal.returns-else-opens_attribute
returns-else-opens_attribute c = line_after _ _ _ c.in-Some.ensures.chars
    c.if-opens_attribute.ensures c.past_line.ensures
