use Rattle.std.specs.Prelude.{string_bytes}
use Rattle.std.specs.Str.{chars}
use Rattle.tok_lexical.specs.Words.{IsSuffix}
use Rattle.tok_values.specs.Strings.{IsQuotedValue}
use Rattle.tok_values.specs.Suffixed.{InRaw}
use Rattle.tok_values.proofs.Suffixed.{or_raw}
use Rattle.tok_values.proofs.literal.LiteralLiteralExt.str_value.Goals as goal

pub returns-in-None-clause-value : goal.returns-in-None-clause-value
returns-in-None-clause-value c =
    let text = chars c.as_str-text.result.now in
    rw c.as_str-text.ensures at
    (or_raw string_bytes (IsQuotedValue IsSuffix text) (InRaw text) c.text_in_quotes.result
    c.text_in_quotes.ensures.value c.in-None.ensures.value)
