use Rattle.std.specs.Str.{chars}
use Rattle.tok_values.specs.CStrings.{c_unit}
use Rattle.tok_lexical.specs.Words.{IsSuffix}
use Rattle.tok_values.specs.Strings.{InQuotes}
use Rattle.tok_values.specs.Suffixed.{InRaw}
use Rattle.tok_values.proofs.Suffixed.{or_raw}
use Rattle.tok_values.proofs.between.c_string.Goals as goal

pub returns-in-None-clause-value : goal.returns-in-None-clause-value
returns-in-None-clause-value c =
    or_raw (λ v. v.items) (InQuotes IsSuffix c_unit (chars c.args.text.now))
    (InRaw (chars c.args.text.now)) c.c_bytes_by.result c.c_bytes_by.ensures.value
    c.in-None.ensures.value
