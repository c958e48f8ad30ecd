-- A value put into a list's front.
use Rattle.std.proofs.Common.{◌≡◌, ℕ, zero, suc, ◌≤◌, List, [], ◌∷◌, ◌++◌, map, length, refl, ap}
use Rattle.std.proofs.Common.{arith}
use Rattle.std.specs.List.{insert}

pub insert_in_front : {X Y : Type 0} (f : X → Y) (xs : List X) (rest : List Y) (i : ℕ) (x : X)
    → i ≤ length xs → map f (insert xs i x) ++ rest ≡ insert (map f xs ++ rest) i (f x)
insert_in_front f xs rest zero x le = refl
insert_in_front f [] rest (suc i) x le = absurd (omega arith)
insert_in_front f (y ∷ xs) rest (suc i) x le =
    ap (λ zs. f y ∷ zs) (insert_in_front f xs rest i x (omega arith))

pub insert_map : {X Y : Type 0} (f : X → Y) (xs : List X) (i : ℕ) (x : X) → i ≤ length xs
    → map f (insert xs i x) ≡ insert (map f xs) i (f x)
insert_map f xs zero x le = refl
insert_map f [] (suc i) x le = absurd (omega arith)
insert_map f (y ∷ xs) (suc i) x le = ap (λ zs. f y ∷ zs) (insert_map f xs i x (omega arith))
