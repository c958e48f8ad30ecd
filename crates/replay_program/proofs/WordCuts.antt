-- Words, cut off one after the other.
use Rattle.std.proofs.Common.{◌≡◌, ◌≤◌, ◌+◌, ℕ, true, false, eqb, not, List, []}
use Rattle.std.proofs.Common.{◌∷◌, length, refl, rules, arith}
use Rattle.std.proofs.lemmas.Bool.{false_from_ne_true}
use Rattle.std.proofs.lemmas.List.Splits.{length-slice_split}
use Rattle.std.proofs.lemmas.List.Sums.{count_by-le-length, length-filter}
use Rattle.std.proofs.lemmas.Slice.Eq.{bytes_eq-Decides}
use Rattle.std.specs.List.{slice_split}
use Rattle.std.specs.Prelude.{bytes_eq}
use Rattle.tok_lexical.specs.Ascii.{space}
use Rattle.replay_program.specs.CommandText.{is_empty, words}

-- words that differ
pub differs : (xs ys : List ℕ) → (xs ≡ ys → ⊥) → bytes_eq xs ys ≡ false
differs xs ys h = false_from_ne_true (bytes_eq xs ys) (λ e. h ((bytes_eq-Decides xs ys).0 e))

pub is_empty_len : (xs : List ℕ) → eqb (length xs) 0 ≡ is_empty xs
is_empty_len [] = refl
is_empty_len (x ∷ xs) = search rules

-- a word, and what is left after it
pub words_take : (line front back : List ℕ)
    → slice_split (λ b. eqb b space) line ≡ front ∷ slice_split (λ b. eqb b space) back
    → is_empty front ≡ false → words line ≡ front ∷ words back
words_take line front back h e = rw (h, e)

-- a space before the first word
pub words_skip : (line front back : List ℕ)
    → slice_split (λ b. eqb b space) line ≡ front ∷ slice_split (λ b. eqb b space) back
    → is_empty front ≡ true → words line ≡ words back
words_skip line front back h e = rw (h, e)

-- the last word
pub words_last : (line : List ℕ) → slice_split (λ b. eqb b space) line ≡ line ∷ []
    → is_empty line ≡ false → words line ≡ line ∷ []
words_last line h e = rw (h, e)

-- a line has at most one word more than bytes
pub words_few : (line : List ℕ) → length (words line) ≤ length line + 1
words_few line =
    let parts = slice_split (λ b. eqb b space) line in
    omega (
      arith,
      length-filter (λ word. not (is_empty word)) parts,
      count_by-le-length (λ word. not (is_empty word)) parts,
      length-slice_split (λ b. eqb b space) line,
      count_by-le-length (λ b. eqb b space) line,
    )
