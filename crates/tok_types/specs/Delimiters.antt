-- The delimiters that are tokens, by number, and their names.
use Rattle.std.specs.Prelude.{ℕ, zero, suc, List, codes}
use Rattle.tok_lexical.specs.declared.delimiter.Delimiter.{Delimiter}
use Rattle.tok_lexical.specs.declared.delimiter.Delimiter.TheVariants as delimiter
use Rattle.tok_lexical.specs.declared.delimiter.Delimiter.TheVariants.{Parenthesis, Brace, Bracket}

-- the visible delimiter of a number
abbrev pub delimiter_at : ℕ → Delimiter
delimiter_at zero = Parenthesis
delimiter_at (suc zero) = Brace
delimiter_at (suc (suc n)) = Bracket

-- how an error calls a group of these delimiters
abbrev pub delimiter_display : Delimiter → List ℕ
delimiter_display Parenthesis = codes "parentheses"
delimiter_display Brace = codes "curly braces"
delimiter_display Bracket = codes "square brackets"
delimiter_display delimiter.None = codes "invisible group"

-- the name of the type of these delimiters
abbrev pub delimiter_name : Delimiter → List ℕ
delimiter_name Parenthesis = codes "Paren"
delimiter_name Brace = codes "Brace"
delimiter_name Bracket = codes "Bracket"
delimiter_name delimiter.None = codes "Group"
