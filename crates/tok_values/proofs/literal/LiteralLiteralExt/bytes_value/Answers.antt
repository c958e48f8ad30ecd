use Rattle.std.proofs.Common.{◌∙◌, true, sym, ap}
use Rattle.std.specs.Str.{chars}
use Rattle.tok_values.specs.Strings.{InQuotes, IsNothing, unit}
use Rattle.tok_values.proofs.Suffixed.{not_quoted, quote_stops}
use Rattle.tok_values.proofs.literal.LiteralLiteralExt.bytes_value.Goals as goal
use Rattle.tok_values.proofs.Letters.{after_none}

pub returns-else-closes-clause-value : goal.returns-else-closes-clause-value
returns-else-closes-clause-value c =
    let read = c.in_ok-rest.ensures in
    after_none 98 (InQuotes IsNothing (unit true)) _ _
    (ap chars (sym c.as_str.ensures) ∙ c.in-Some.ensures.chars)
    (not_quoted IsNothing (unit true) (quote_stops true) (chars c.in-Some.quoted.now) _ _ read.0
    c.in-Some-past_char.ensures.chars read.1 read.3 c.if-closes.ensures)
