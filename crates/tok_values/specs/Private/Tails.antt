-- What the functions that read literals take after them.
use Rattle.std.specs.Prelude.{ℕ, List}
use Rattle.tok_lexical.specs.Words.{IsSuffix}
use Rattle.tok_values.specs.Strings.{IsNothing}
use Rattle.tok_values.specs.declared.between.Tail.{Tail}
use Rattle.tok_values.specs.declared.between.Tail.TheVariants.{Nothing, Suffix}

-- what may stand after the literal
abbrev pub IsTail : Tail → List ℕ → Type 0
IsTail Nothing = IsNothing
IsTail Suffix = IsSuffix
