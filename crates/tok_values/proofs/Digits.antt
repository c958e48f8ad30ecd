-- What digits are worth, one digit further.
use Rattle.std.proofs.Common.{◌≡◌, ◌∙◌, ℕ, ◌+◌, ◌*◌, ◌≤◌, ◌<◌, List, [], ◌∷◌, refl, sym}
use Rattle.std.proofs.Common.{arith, true, false}
use Rattle.std.specs.Prelude.{fold, if◌then◌else◌}
use Rattle.std.specs.Char.{is_digit, digit_value}
use Rattle.std.proofs.Math.Nat.{mul-le-mul_left}
use Rattle.std.proofs.lemmas.Bool.{cond_both, lt-ltb}
use Rattle.tok_lexical.specs.Numbers.{IsNumberSuffix, has_digit, is_digit_or_underscore}
use Rattle.tok_lexical.specs.Numbers.{starts_digit}
use Rattle.tok_lexical.specs.Pieces.{Skips}
use Rattle.tok_lexical.proofs.Digits.{all_stops}
use Rattle.tok_values.specs.Integers.{IsDigits, IsInteger, base_of}
use Rattle.tok_values.specs.Numbers.{number}

-- a number with one more digit, if the character is one
abbrev pub step : ℕ → ℕ → ℕ → ℕ
step radix n c = if is_digit c radix then n * radix + digit_value c else n

pub grows : (radix n : ℕ) (cs : List ℕ) → 1 ≤ radix → n ≤ fold (step radix) n cs
grows radix n [] h = omega arith
grows radix n (c ∷ cs) h =
    cond_both (is_digit c radix) _ _ (λ m. n ≤ fold (step radix) m cs)
    (λ _. omega (arith, mul-le-mul_left n h, grows radix (n * radix + digit_value c) cs h))
    (λ _. grows radix n cs h)

module _ (radix : ℕ) (all rest after : List ℕ) (value c : ℕ)
    (stands : fold (step radix) value rest ≡ number radix all) (cut : rest ≡ c ∷ after) where
  pub number_more : (d : ℕ) → (digit_value c < radix) × (d ≡ digit_value c)
      → fold (step radix) (value * radix + d) after ≡ number radix all
  number_more d (low, is) = let digit = lt-ltb (digit_value c) radix low in cc

  pub number_past : (d top : ℕ) → 1 ≤ radix → (digit_value c < radix) × (d ≡ digit_value c)
      → (value * radix + d < top → ⊥) → top ≤ number radix all
  number_past d top some digit past =
      let e = number_more d digit in
      let g = grows radix (value * radix + d) after some in
      omega (arith, e, g, past)

-- the digits of a number are one front of it
pub same_digits : (radix : ℕ) (text suffix digits rest : List ℕ) (value : ℕ)
    → (d : IsDigits radix text suffix value) → Skips (is_digit_or_underscore radix) text digits rest
    → (d.digits ≡ digits) × (suffix ≡ rest)
same_digits radix text suffix digits rest value d s =
    all_stops (is_digit_or_underscore radix) d.digits digits suffix rest d.skips.pass s.pass
    d.skips.stops s.stops (sym d.skips.cut ∙ s.cut)

module _ (text digits rest sfx : List ℕ) (radix : ℕ) (base : radix ≡ (base_of text).0)
    (left : rest ≡ (base_of text).1) (s : Skips (is_digit_or_underscore radix) rest digits sfx)
  where
    to_digits : (value : ℕ) (suffix : List ℕ) → IsInteger text value suffix
        → IsDigits radix rest suffix value
    to_digits value suffix (starts, d) = rw (base, left) d

    pub no_digit : has_digit radix digits ≡ false → (value : ℕ) → (suffix : List ℕ)
        → IsInteger text value suffix → ⊥
    no_digit none value suffix i =
        let d = to_digits value suffix i in
        let same = same_digits radix rest suffix digits sfx value d s in
        cc (none, same.0, d.some)

    pub no_suffix : (IsNumberSuffix radix sfx → ⊥) → (value : ℕ) → (suffix : List ℕ)
        → IsInteger text value suffix → ⊥
    no_suffix none value suffix i =
        let d = to_digits value suffix i in
        none (rw (same_digits radix rest suffix digits sfx value d s).1 at d.ends)

    pub is_integer : starts_digit text ≡ true → has_digit radix digits ≡ true
        → IsNumberSuffix radix sfx
        → IsInteger text (number radix digits) sfx
    is_integer starts some ends = (
      starts,
      rw (← base, ← left)
          (record { digits = digits; skips = s; some = some; ends = ends; is = refl }),
    )
