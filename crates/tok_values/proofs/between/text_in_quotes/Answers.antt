use Rattle.std.proofs.Common.{false}
use Rattle.std.specs.Str.{chars}
use Rattle.tok_values.specs.Private.Tails.{IsTail}
use Rattle.tok_values.specs.Strings.{unit}
use Rattle.tok_values.proofs.Suffixed.{not_quoted, quote_stops}
use Rattle.tok_values.proofs.between.text_in_quotes.Goals as goal

pub returns-else-closes-clause-value : goal.returns-else-closes-clause-value
returns-else-closes-clause-value c =
    let read = c.in_ok-rest.ensures in
    λ value (characters, h, is).
    not_quoted (IsTail c.args.tail) (unit false) (quote_stops false) (chars c.args.text.now) _ _
    read.0 c.in-Some.ensures.chars read.1 read.3 c.if-closes.ensures characters h
