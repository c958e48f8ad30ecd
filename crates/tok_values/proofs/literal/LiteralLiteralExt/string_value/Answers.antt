use Rattle.std.specs.Prelude.{string_bytes}
use Rattle.tok_values.proofs.Values.{string_found}
use Rattle.tok_values.proofs.literal.LiteralLiteralExt.string_value.Goals as goal

pub returns-clause-grammar : goal.returns-clause-grammar
returns-clause-grammar c = rw c.as_str.ensures at c.text_in_quotes.ensures.value

pub returns-clause-value : goal.returns-clause-value
returns-clause-value c = string_found string_bytes _ _ (returns-clause-grammar c)
