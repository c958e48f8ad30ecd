use Rattle.tok_values.proofs.literal.LiteralLiteralExt.char_value.Goals as goal

pub returns : goal.returns
returns c = rw c.as_str.ensures at c.in_apostrophes.ensures.finds
