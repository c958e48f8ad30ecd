-- Limits.
use Rattle.std.specs.Prelude.{codes}
use Rattle.syn_literals.specs.TakeLiterals.{take_integer, take_string}
use Rattle.syn_parse.specs.Owned.{take_own}
use Rattle.syn_parse.specs.Takes.{Taking, ◌>>=◌, gives}
use Rattle.syn_parse.specs.TokenNames.{Eq, take}
use Rattle.example_grammar.specs.declared.limit.Limit.{Limit}

-- `limit "name" = most`
abbrev pub take_limit : Taking Limit
take_limit = do
  _ ← take_own (codes "limit")
  name ← take_string
  _ ← take Eq
  most ← take_integer
  gives (record { name = name; most = most })
