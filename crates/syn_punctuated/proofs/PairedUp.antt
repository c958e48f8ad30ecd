-- The pairs of a list, from its fields.
use Rattle.std.proofs.Common.{◌≡◌, List, [], ◌∷◌, ◌++◌, map, refl, sym, ap}
use Rattle.syn_punctuated.specs.Pairs.{pair_of, end_of, value_of_pair}
use Rattle.syn_punctuated.specs.Paired.{paired}

paired_bare : {X Y : Type 0} (xs : List X) → paired {Y = Y} xs [] ≡ map end_of xs
paired_bare [] = refl
paired_bare (x ∷ xs) = ap (λ ps. end_of x ∷ ps) (paired_bare xs)

pub paired_up : {X Y : Type 0} (items : List (X × Y)) (rest : List X)
    → map pair_of items ++ map end_of rest
    ≡ paired (map (λ p. p.0) items ++ rest) (map (λ p. p.1) items)
paired_up [] rest = sym (paired_bare rest)
paired_up (p ∷ items) rest = ap (λ ps. pair_of p ∷ ps) (paired_up items rest)

-- the values of pairs are those that were paired
pub paired-values : {X Y : Type 0} (xs : List X) (ys : List Y)
    → map value_of_pair (paired xs ys) ≡ xs
paired-values [] ys = refl
paired-values (x ∷ xs) [] = ap (λ zs. x ∷ zs) (paired-values xs [])
paired-values (x ∷ xs) (y ∷ ys) = ap (λ zs. x ∷ zs) (paired-values xs ys)
