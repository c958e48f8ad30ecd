-- Escapes by number.
use Rattle.std.proofs.Common.{◌≡◌, ℕ, List, [], ◌∷◌, None, false, refl}
use Rattle.std.specs.Prelude.{if◌then◌else◌}
use Rattle.std.proofs.lemmas.Bool.{ne_eqb}
use Rattle.tok_lexical.specs.Pieces.{Skips, after_first, begins_with, is_neither}
use Rattle.tok_lexical.proofs.Fronts.{first_parts}
use Rattle.tok_values.specs.Escapes.{and_rest, code, named_char}

module _ (text start digits after : List ℕ) (cut : text ≡ 123 ∷ start)
    (s : Skips (is_neither 125 125) start digits after) where
  pub code_is : code text ≡ (if begins_with 125 after then and_rest (named_char digits)
      (after_first after) else None)
  code_is = let w = first_parts 125 start digits after s in rw (cut, w.1, w.0)

  pub code_open : ((rest : List ℕ) → after ≡ 125 ∷ rest → ⊥) → code text ≡ None
  code_open misses =
      rw (code_is, unbegun after misses)
    where
      unbegun : (xs : List ℕ) → ((rest : List ℕ) → xs ≡ 125 ∷ rest → ⊥) → begins_with 125 xs ≡ false
      unbegun [] h = refl
      unbegun (c ∷ xs) h = ne_eqb c 125 (λ e. h xs (cc))

  pub code_closed : (rest : List ℕ) → after ≡ 125 ∷ rest
      → code text ≡ and_rest (named_char digits) rest
  code_closed rest e = rw (code_is, e)
