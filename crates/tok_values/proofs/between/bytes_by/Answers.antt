use Rattle.std.proofs.Common.{true}
use Rattle.std.specs.Str.{chars}
use Rattle.tok_lexical.specs.Words.{IsSuffix}
use Rattle.tok_values.specs.Strings.{unit}
use Rattle.tok_values.proofs.Suffixed.{not_quoted, quote_stops}
use Rattle.tok_values.proofs.between.bytes_by.Goals as goal

pub returns-else-closes-clause-value : goal.returns-else-closes-clause-value
returns-else-closes-clause-value c =
    let read = c.in_ok-rest.ensures in
    not_quoted IsSuffix (unit true) (quote_stops true) (chars c.args.text.now) _ _ read.0
    c.in-Some.ensures.chars read.1 read.3 c.if-closes.ensures
