-- What is printed around a group, and which group is invisible.
use Rattle.std.specs.Prelude.{ℕ, List, [], ◌∷◌, codes, Bool, true, false}
use Rattle.tok_lexical.specs.declared.delimiter.Delimiter.{Delimiter}
use Rattle.tok_lexical.specs.declared.delimiter.Delimiter.TheVariants.{Parenthesis, Brace, Bracket}
use Rattle.tok_lexical.specs.declared.delimiter.Delimiter.TheVariants.{None}

-- The bytes printed before a group's contents: one of ( { [ «. Written out in bytes: `opening_mark`
-- has the code points, by which a text is read.
abbrev pub opening : Delimiter → List ℕ
opening Parenthesis = codes "("
opening Brace = codes "{"
opening Bracket = codes "["
opening None = 0xc2 ∷ 0xab ∷ []

-- the bytes printed after a group's contents: one of ) } ] », written out likewise
abbrev pub closing : Delimiter → List ℕ
closing Parenthesis = codes ")"
closing Brace = codes "}"
closing Bracket = codes "]"
closing None = 0xc2 ∷ 0xbb ∷ []

-- the delimiter `None`, whose groups have no brackets
abbrev pub is_invisible : Delimiter → Bool
is_invisible None = true
is_invisible d = false
