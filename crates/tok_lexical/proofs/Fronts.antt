-- A text up to a character, and from it on.
use Rattle.std.proofs.Common.{◌≡◌, ◌∙◌, ℕ, List, [], ◌∷◌, ◌++◌, refl, true, arith}
use Rattle.std.specs.List.{list_all}
use Rattle.std.proofs.lemmas.Bool.{ne_eqb}
use Rattle.tok_lexical.specs.Pieces.{Skips, Stops, is_neither, up_to, from_first}
use Rattle.tok_lexical.proofs.NestedComments.{neither_first}

module _ (a : ℕ) where
  other_first : (c : ℕ) (rest : List ℕ) → (c ≡ a → ⊥) → (up_to a (c ∷ rest) ≡ c ∷ up_to a rest)
      × (from_first a (c ∷ rest) ≡ from_first a rest)
  other_first c rest n = rw (ne_eqb c a n) (refl, refl)

  at_stop : (rest : List ℕ) → Stops (is_neither a a) rest → (up_to a rest ≡ [])
      × (from_first a rest ≡ rest)
  at_stop [] s = (refl, refl)
  at_stop (c ∷ rest) s = grind arith

  parts_at_stop : (front rest : List ℕ) → list_all (is_neither a a) front ≡ true →
      Stops (is_neither a a) rest → (up_to a (front ++ rest) ≡ front)
      × (from_first a (front ++ rest) ≡ rest)
  parts_at_stop [] rest h s = at_stop rest s
  parts_at_stop (c ∷ front) rest h s =
      let n = neither_first a a c front h in
      let w = other_first c (front ++ rest) n.0 in
      let v = parts_at_stop front rest n.2 s in
      (cc (w.0, v.0), w.1 ∙ v.1)

  pub first_parts : (text front rest : List ℕ) → Skips (is_neither a a) text front rest →
      (up_to a text ≡ front) × (from_first a text ≡ rest)
  first_parts text front rest s = rw s.cut (parts_at_stop front rest s.pass s.stops)
