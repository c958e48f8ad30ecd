-- The text of a list, a pair at a time.
use Rattle.std.proofs.Common.{◌≡◌, ℕ, List, [], ◌∷◌, ◌++◌, refl, append_assoc}
use Rattle.std.specs.Prelude.{encode_utf8}
use Rattle.std.specs.Fmt.{decimal}
use Rattle.syn_punctuated.specs.declared.pair.Pair.{Pair}
use Rattle.syn_punctuated.specs.declared.pair.Pair.TheVariants.{Punctuated, End}
use Rattle.syn_punctuated.specs.Paired.{paired}
use Rattle.example_callers.specs.Text.{text_of}

abbrev pair_text : Pair ℕ ℕ → List ℕ
pair_text (Punctuated x y) = decimal x ++ encode_utf8 y
pair_text (End x) = decimal x

abbrev pub pairs_text : List (Pair ℕ ℕ) → List ℕ
pairs_text [] = []
pairs_text (p ∷ ps) = pair_text p ++ pairs_text ps

pub text_paired : (xs ys : List ℕ) → pairs_text (paired xs ys) ≡ text_of xs ys
text_paired [] ys = refl
text_paired (x ∷ xs) [] = rw (text_paired xs []) refl
text_paired (x ∷ xs) (y ∷ ys) = rw (append_assoc, text_paired xs ys) refl
