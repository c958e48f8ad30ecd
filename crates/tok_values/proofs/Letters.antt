-- Values of texts after a letter.
use Rattle.std.proofs.Common.{◌≡◌, ◌∷◌, List, ℕ}
use Rattle.tok_lexical.specs.Pieces.{After}
use Rattle.tok_values.specs.Values.{HasOneValue}

-- a text has one value, if what is after the letter has
pub after_once : {A : Type 0} (letter : ℕ) (Is : List ℕ → A → Type 0) → HasOneValue Is →
    (text : List ℕ) (a b : A) → After letter (λ w. Is w a) text → After letter (λ w. Is w b) text →
    a ≡ b
after_once letter Is once text a b (string, e, h) (other, f, k) =
    let same : other ≡ string = cc in once string a b h (rw same at k)

-- a text has no value, if what is after the letter has none
pub after_none : {A : Type 0} (letter : ℕ) (Is : List ℕ → A → Type 0) (text string : List ℕ) →
    text ≡ letter ∷ string → ((a : A) → Is string a → ⊥) → (a : A) →
    After letter (λ w. Is w a) text → ⊥
after_none letter Is text string e none a (other, f, h) =
    let same : other ≡ string = cc in none a (rw same at h)
