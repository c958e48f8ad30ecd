-- When two lists of arguments are the same, spans included.
use Rattle.std.specs.Prelude.{◌≡◌}
use Rattle.arguments.specs.Forms.{list_form}
use Rattle.arguments.specs.Values.{Arguments}

-- equal names, literals, commas and spans, at every depth
abbrev pub SameArguments : (left right : Arguments) → Type 0
SameArguments left right = list_form left ≡ list_form right
