-- A list of numbers as a text.
use Rattle.std.specs.Prelude.{ℕ, List, [], ◌∷◌, ◌++◌, encode_utf8}
use Rattle.std.specs.Fmt.{decimal}

-- numbers in decimal and separators in turn, a number first
abbrev pub text_of : List ℕ → List ℕ → List ℕ
text_of [] ys = []
text_of (x ∷ xs) [] = decimal x ++ text_of xs []
text_of (x ∷ xs) (y ∷ ys) = decimal x ++ (encode_utf8 y ++ text_of xs ys)
