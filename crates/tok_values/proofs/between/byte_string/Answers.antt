use Rattle.std.proofs.Common.{true}
use Rattle.std.specs.Str.{chars}
use Rattle.tok_lexical.specs.Words.{IsSuffix}
use Rattle.tok_values.specs.Strings.{InQuotes, unit}
use Rattle.tok_values.specs.Suffixed.{InRaw}
use Rattle.tok_values.proofs.Suffixed.{or_raw}
use Rattle.tok_values.proofs.between.byte_string.Goals as goal

pub returns-in-None-clause-value : goal.returns-in-None-clause-value
returns-in-None-clause-value c =
    or_raw (λ v. v.items) (InQuotes IsSuffix (unit true) (chars c.args.text.now))
    (InRaw (chars c.args.text.now)) c.bytes_by.result c.bytes_by.ensures.value
    c.in-None.ensures.value
