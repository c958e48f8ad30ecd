-- What is taken within a group.
use Rattle.tok_lexical.specs.declared.delimiter.Delimiter.{Delimiter}
use Rattle.tok_leaves.specs.declared.span.DelimSpan.{DelimSpan}
use Rattle.syn_parse.specs.Lighter.{lowers_group}
use Rattle.syn_parse.specs.Takes.{take_group}
use Rattle.syn_parse.specs.Takings.{Takings, lower, stated, untold}

-- a group's span, and a value inside
abbrev pub grouped : {T : Type 0} → Delimiter → Takings T → Takings (DelimSpan × T)
grouped d untold = untold
grouped d (stated filled_alone form take weighing) =
    stated filled_alone (λ p. (p.0, form p.1)) (take_group d take) (lower (lowers_group d take))
