-- Looks after the next token.
use Rattle.std.specs.Prelude.{Bool, false, Option, Some, None}
use Rattle.tok_buffer.specs.Place.{Place}

-- a test of the place after the next token, false if there is none
abbrev pub after_skip : (Place → Bool) → Option Place → Bool
after_skip test None = false
after_skip test (Some p) = test p
