-- Levels, and the forests of which they are made, and lists in which an element is set later.
use Rattle.std.proofs.Common.{◌≡◌, ℕ, ◌+◌, List, [], ◌∷◌, ◌++◌, length, length-append, refl, ap}
use Rattle.std.proofs.Common.{arith, append_assoc, set}
use Rattle.std.proofs.lemmas.List.{set_at}
use Rattle.tok_core.specs.Building.{Levels, but_last, last_of, levels_of, places}
use Rattle.tok_core.specs.Forest.{Forest}
use Rattle.tok_core.specs.Weight.{weight}

but_last-put : (f : Forest) (s : List Forest) (g : Forest) → but_last f (s ++ g ∷ []) ≡ f ∷ s
but_last-put f [] g = refl
but_last-put f (h ∷ s) g = ap (λ w. f ∷ w) (but_last-put h s g)

last_of-put : (f : Forest) (s : List Forest) (g : Forest) → last_of f (s ++ g ∷ []) ≡ g
last_of-put f [] g = refl
last_of-put f (h ∷ s) g = last_of-put h s g

pub levels_of-put : (s : List Forest) (f : Forest) → levels_of (s ++ f ∷ [])
    ≡ record { outer = s; inner = f }
levels_of-put [] f = refl
levels_of-put (g ∷ s) f = λ i. record { outer = but_last-put g s f i; inner = last_of-put g s f i }

-- the last of a list, and what is before it
pub ends_in_last : (f : Forest) (s : List Forest) → f ∷ s ≡ but_last f s ++ last_of f s ∷ []
ends_in_last f [] = refl
ends_in_last f (g ∷ s) = ap (λ w. f ∷ w) (ends_in_last g s)

pub one_end : {A : Type 0} (xs ys : List A) (x y : A) → xs ++ x ∷ [] ≡ ys ++ y ∷ [] → (xs ≡ ys)
    × (x ≡ y)
one_end [] [] x y e = (refl, cc)
one_end [] (w ∷ ys) x y e = absurd (omega (arith, ap length e, length-append ys (y ∷ [])))
one_end (w ∷ xs) [] x y e = absurd (omega (arith, ap length e, length-append xs (x ∷ [])))
one_end (w ∷ xs) (v ∷ ys) x y e =
    let r = one_end xs ys x y (cc) in (cc, r.1)

pub same_levels : (s : Levels) (outer : List Forest) (inner : Forest) → s.outer ≡ outer →
    s.inner ≡ inner → s ≡ record { outer = outer; inner = inner }
same_levels s outer inner p q = λ i. record { outer = p i; inner = q i }

-- what is set where an element stands, with more after it
pub set_first : {A : Type 0} (xs ys zs : List A) (x y : A)
    → set (((xs ++ x ∷ []) ++ ys) ++ zs) (length xs) y ≡ xs ++ y ∷ (ys ++ zs)
set_first xs ys zs x y = simp append_assoc (set_at xs x (ys ++ zs) y (length xs) refl)

pub places_length : (n : ℕ) (s : List Forest) → length (places n s) ≡ length s
places_length n [] = refl
places_length n (f ∷ s) = cc (places_length (n + weight f + 1) s)
