use Rattle.std.specs.Str.{chars}
use Rattle.tok_lexical.specs.Words.{IsSuffix}
use Rattle.tok_values.specs.CStrings.{c_unit}
use Rattle.tok_values.proofs.Suffixed.{c_quote_stops, not_quoted}
use Rattle.tok_values.proofs.between.c_bytes_by.Goals as goal

pub returns-else-closes-clause-value : goal.returns-else-closes-clause-value
returns-else-closes-clause-value c =
    let read = c.in_ok-rest.ensures in
    not_quoted IsSuffix c_unit c_quote_stops (chars c.args.text.now) _ _ read.0
    c.in-Some.ensures.chars read.1 read.3 c.if-closes.ensures
