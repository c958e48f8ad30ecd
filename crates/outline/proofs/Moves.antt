-- Moves through a text.
use Rattle.std.proofs.Common.{◌≡◌, ℕ, List, [], ◌∷◌, ◌++◌, refl, ap, ◌∙◌, sym, append_assoc}
use Rattle.std.specs.Str.{chars}
use Rattle.outline.specs.declared.position.Position.{Position}
use Rattle.outline.specs.Positions.{GoesOn, position_after, step}

-- the position after a text and one more character
pub position_after-one : (p : Position) (front : List ℕ) (c : ℕ) →
    position_after p (front ++ c ∷ []) ≡ step (position_after p front) c
position_after-one p [] c = refl
position_after-one p (d ∷ front) c = position_after-one (step p d) front c

-- a text goes on at itself
pub starts : (p : Position) (text : List ℕ) → GoesOn p text p text
starts p text = ([], refl, refl)

-- and so on, by one character
pub goes_past : (p : Position) (text : List ℕ) (q : Position) (rest : List ℕ) (c : ℕ)
    (after : List ℕ) →
    GoesOn p text q rest → chars rest ≡ c ∷ chars after → GoesOn p text (step q c) after
goes_past p text q rest c after goes e =
    let front = goes.0 in (
      front ++ c ∷ [],
      goes.1 ∙ ap (λ s. front ++ s) e ∙ sym (append_assoc front (c ∷ []) (chars after)),
      ap (λ s. step s c) goes.2 ∙ sym (position_after-one p front c),
    )
