-- Texts are written in a row, one by one.
use Rattle.std.proofs.Common.{arith, ◌≡◌, Bool, true, false, cond, List, [], ◌∷◌, ◌++◌, ℕ}
use Rattle.std.proofs.Common.{append_assoc, codes}
use Rattle.std.proofs.lemmas.List.{append-nil}
use Rattle.std.proofs.Output.{writes_in_calls_nil}
use Rattle.std.specs.Fmt.{HasWritten, IsPlainFormatter}
use Rattle.std.specs.List.{flat_map}
use Rattle.std.specs.declared.fmt.Formatter.{Formatter}
use Rattle.example_config.specs.Printed.{in_a_row}

-- the texts that are left to write: the first of them is the first of the row, or it isn't
abbrev pub left : Bool → List (List ℕ) → List ℕ
left true texts = in_a_row texts
left false texts = flat_map (λ t. codes ", " ++ t) texts

-- a comma and a space, unless the text after them is the first of the row
abbrev pub gap : Bool → List ℕ
gap first = cond first [] (codes ", ")

left_next : (first : Bool) (t : List ℕ) (ts : List (List ℕ))
    → left first (t ∷ ts) ≡ gap first ++ (t ++ left false ts)
left_next first t ts = grind (arith, append_assoc)

-- one text further
pub text_further : (first : Bool) (done t : List ℕ) (ts : List (List ℕ)) (all : List ℕ)
    → done ++ left first (t ∷ ts) ≡ all → ((done ++ gap first) ++ t) ++ left false ts ≡ all
text_further first done t ts all h = grind (arith, append_assoc, left_next)

-- no text is left
pub all_written : (first : Bool) (done all : List ℕ) → done ++ left first [] ≡ all → done ≡ all
all_written first done all h = grind (arith, append-nil)

-- nothing is written yet
pub none_written : {W : Type 0} (took : W → List ℕ → W → Type 0) (f : Formatter W)
    → IsPlainFormatter f → HasWritten took f [] f
none_written took f plain = grind (arith, writes_in_calls_nil)
