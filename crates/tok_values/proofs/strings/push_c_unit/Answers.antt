use Rattle.std.proofs.Common.{rules}
use Rattle.std.specs.Str.{chars}
use Rattle.tok_values.specs.CStrings.{bytes_of}
use Rattle.tok_values.specs.Strings.{characters_of}
use Rattle.tok_values.proofs.Suffixed.{c_none, c_some}
use Rattle.tok_values.proofs.strings.push_c_unit.Goals as goal

pub returns-in_default-clause-value : goal.returns-in_default-clause-value
returns-in_default-clause-value c = (
  c_none (chars c.args.text.now) c.names_byte-is_byte.result c.names_byte-is_byte.ensures
      (search rules),
  search rules,
)

pub returns-clause-value : goal.returns-clause-value
returns-clause-value c = (
  bytes_of c.names_byte-is_byte.result (characters_of c.in-Some.c),
  c_some (chars c.args.text.now) (characters_of c.in-Some.c) (chars c.in-Some.rest.now)
      c.names_byte-is_byte.result c.names_byte-is_byte.ensures c.in-Some.ensures.finds,
  c.in_ok-push_meaning.ensures,
)
