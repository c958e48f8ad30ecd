-- Floats: digits and what follows them.
use Rattle.std.proofs.Common.{◌≡◌, ◌∙◌, ◌⊎◌, ℕ, inl, inr, List, [], ◌∷◌, ◌++◌, refl, sym, ap}
use Rattle.std.proofs.Common.{arith, append_assoc, true, false}
use Rattle.std.specs.Prelude.{◌==◌, Option, Some, None, MatchOption}
use Rattle.std.specs.Borrow.{Bor}
use Rattle.std.specs.Str.{chars}
use Rattle.std.proofs.lemmas.Bool.{false≢true, eqb-true, or_cases}
use Rattle.tok_lexical.specs.Pieces.{HasPrefix, IsLongestPrefix, ReadsLongest, Stops, After}
use Rattle.tok_lexical.specs.Pieces.{after_first}
use Rattle.tok_lexical.specs.Words.{IsSuffix}
use Rattle.tok_lexical.specs.Numbers.{is_digit_or_underscore, is_exponent, starts_number_suffix}
use Rattle.tok_lexical.specs.Numbers.{IsNumberSuffix, IsDecimal}
use Rattle.tok_lexical.specs.Floats.{IsExponentSuffix, IsExponentDigits, IsSigned, IsExponent}
use Rattle.tok_lexical.specs.Floats.{IsScaled, IsFraction, IsFloatTail}
use Rattle.tok_lexical.proofs.Longest.{tries_after, either_first, either_second}
use Rattle.tok_lexical.proofs.Digits.{all_stops, suffix_stops, head_passes}

pub exponent_suffix_stops : (suffix : List ℕ) → IsExponentSuffix suffix →
    Stops (is_digit_or_underscore 10) suffix
exponent_suffix_stops [] s = tt
exponent_suffix_stops (c ∷ suffix) s = s.0

-- a suffix that follows what stops
pub exponent_suffix : (text suffix last : List ℕ) → Stops (is_digit_or_underscore 10) text →
    IsLongestPrefix IsSuffix text suffix last → IsLongestPrefix IsExponentSuffix text suffix last
exponent_suffix text suffix last s t = record {
  cut = t.cut;
  spelled = suits_exponent suffix t.cut t.spelled;
  longest = λ more after e k. t.longest more after e (plain (suffix ++ more) k);
}
  where
    plain : (xs : List ℕ) → IsExponentSuffix xs → IsSuffix xs
    plain [] k = inl refl
    plain (c ∷ xs) k = inr k.1

    head_stops : (whole : List ℕ) (c : ℕ) (xs : List ℕ) → Stops (is_digit_or_underscore 10) whole →
        whole ≡ c ∷ xs → is_digit_or_underscore 10 c ≡ false
    head_stops [] c xs h e = cc
    head_stops (d ∷ whole) c xs h e = let same : c ≡ d = cc in rw same h

    suits_exponent : (xs : List ℕ) → text ≡ xs ++ last → IsSuffix xs → IsExponentSuffix xs
    suits_exponent [] e k = tt
    suits_exponent (c ∷ xs) e (inl n) = cc
    suits_exponent (c ∷ xs) e (inr w) = (head_stops text c (xs ++ last) s e, w)

-- digits begin with no sign
digits_head : (k : ℕ) (text : List ℕ) → is_digit_or_underscore 10 k ≡ false →
    HasPrefix IsExponentDigits (k ∷ text) → ⊥
digits_head k text n (piece, after, cut, ([], tail, e, a, g, t)) = false≢true g
digits_head k text n (piece, after, cut, (d ∷ ds, tail, e, a, g, t)) =
    let same : k ≡ d = cc in
    false≢true (sym n ∙ rw same (head_passes (is_digit_or_underscore 10) d ds a))

after_head : (j k : ℕ) (S : List ℕ → Type 0) (text rest : List ℕ) → text ≡ k ∷ rest →
    (j ≡ k → ⊥) → HasPrefix (After j S) text → ⊥
after_head j k S text rest e n (piece, after, cut, (more, f, s)) = n (cc)

no_after : (j : ℕ) (S : List ℕ → Type 0) (text : List ℕ) →
    ((more : List ℕ) → text ≡ j ∷ more → ⊥) → HasPrefix (After j S) text → ⊥
no_after j S text n (piece, after, cut, (more, f, s)) = n (more ++ after) (cc)

pub signed_plus : (text rest : List ℕ) (answer : Option (Bor (List ℕ))) → text ≡ 43 ∷ rest →
    ReadsLongest IsExponentDigits rest answer → ReadsLongest IsSigned text answer
signed_plus text rest answer e t =
    either_first (After 43 IsExponentDigits) (λ p. After 45 IsExponentDigits p
    ⊎ IsExponentDigits p) text answer
    (λ (piece, after, cut, h). elim h [
      | inl s ↦ after_head 45 43 IsExponentDigits text rest e (λ k. omega arith)
          (piece, after, cut, s)
      | inr d ↦ digits_head 43 rest refl (piece, after, sym e ∙ cut, d)
    ])
    (tries_after 43 IsExponentDigits text rest answer e t)

pub signed_minus : (text rest : List ℕ) (answer : Option (Bor (List ℕ))) → text ≡ 45 ∷ rest →
    ReadsLongest IsExponentDigits rest answer → ReadsLongest IsSigned text answer
signed_minus text rest answer e t =
    either_second (After 43 IsExponentDigits) (λ p. After 45 IsExponentDigits p
    ⊎ IsExponentDigits p) text answer
    (after_head 43 45 IsExponentDigits text rest e (λ k. omega arith))
    (either_first (After 45 IsExponentDigits) IsExponentDigits text answer
    (λ (piece, after, cut, d). digits_head 45 rest refl (piece, after, sym e ∙ cut, d))
    (tries_after 45 IsExponentDigits text rest answer e t))

pub signed_none : (text : List ℕ) (answer : Option (Bor (List ℕ))) →
    ((more : List ℕ) → text ≡ 43 ∷ more → ⊥) → ((more : List ℕ) → text ≡ 45 ∷ more → ⊥) →
    ReadsLongest IsExponentDigits text answer → ReadsLongest IsSigned text answer
signed_none text answer a b t =
    either_second (After 43 IsExponentDigits) (λ p. After 45 IsExponentDigits p
    ⊎ IsExponentDigits p) text answer (no_after 43 IsExponentDigits text a)
    (either_second (After 45 IsExponentDigits) IsExponentDigits text answer
    (no_after 45 IsExponentDigits text b) t)

-- an exponent: its first character, and what is tried after it
pub tries_exponent : (text rest : List ℕ) (answer : Option (Bor (List ℕ))) → is_exponent text
    ≡ true → rest ≡ after_first text → ReadsLongest IsSigned rest answer →
    ReadsLongest IsExponent text answer
tries_exponent [] rest answer h e t = absurd (false≢true h)
tries_exponent (c ∷ text) rest None h e misses = λ (piece, after, cut, k). none piece after cut k
  where
    none : (piece after : List ℕ) → c ∷ text ≡ piece ++ after → IsExponent piece → ⊥
    none [] after cut k = k
    none (d ∷ piece) after cut k = misses (piece, after, cc, k.1)
tries_exponent (c ∷ text) rest (Some last) h e (piece, t) = (
  c ∷ piece,
  record {
    cut = ap (λ w. c ∷ w) (sym e ∙ t.cut);
    spelled = (h, t.spelled);
    longest = λ more after f k. t.longest more after f k.1;
  },
)

pub no_exponent : (text : List ℕ) → is_exponent text ≡ false → HasPrefix IsExponent text → ⊥
no_exponent text h ([], after, cut, k) = k
no_exponent text h (d ∷ piece, after, cut, k) = false≢true (sym h ∙ ap is_exponent cut ∙ k.0)

exponent_apart : (c : ℕ) (more : List ℕ) → is_exponent (c ∷ more) ≡ true →
    is_digit_or_underscore 10 c ≡ false
exponent_apart c more h = elim (or_cases (c == 101) (c == 69) h)
    [ inl e ↦ rw (eqb-true c 101 e) refl | inr e ↦ rw (eqb-true c 69 e) refl ]

pub exponent_begins : (tail : List ℕ) → IsExponent tail → (c : ℕ) × (more : List ℕ)
    × (tail ≡ c ∷ more) × (is_digit_or_underscore 10 c ≡ false)
exponent_begins [] k = absurd k
exponent_begins (c ∷ more) k = (c, more, refl, exponent_apart c more k.0)

pub tail_begins : (tail : List ℕ) → IsFloatTail tail → (c : ℕ) × (more : List ℕ)
    × (tail ≡ c ∷ more) × (is_digit_or_underscore 10 c ≡ false)
tail_begins tail (inl (more, e, k)) = (46, more, e, refl)
tail_begins tail (inr k) = exponent_begins tail k

pub point_begins : (tail : List ℕ) → tail ≡ 46 ∷ [] → (c : ℕ) × (more : List ℕ)
    × (tail ≡ c ∷ more) × (is_digit_or_underscore 10 c ≡ false)
point_begins tail e = (46, [], e, refl)

-- no integer goes on past an exponent
scaled_decimal : (piece more : List ℕ) → IsScaled piece → IsDecimal (piece ++ more) → ⊥
scaled_decimal piece more (ds, tail, e, a, g, k) (other, suffix, f, b, g', s) =
    let h = exponent_begins tail k in
    let stops : Stops (is_digit_or_underscore 10) (tail ++ more) = rw h.2 h.3 in
    let w = all_stops (is_digit_or_underscore 10) ds other (tail ++ more) suffix a b stops
    (suffix_stops 10 suffix s) (cc (append_assoc ds tail more)) in
    clash tail suffix k w.1 s
  where
    starts_no_suffix : (c : ℕ) (rest : List ℕ) → is_exponent (c ∷ rest) ≡ true →
        starts_number_suffix 10 c ≡ false
    starts_no_suffix c rest h = grind arith

    clash : (tail suffix : List ℕ) → IsExponent tail → tail ++ more ≡ suffix →
        IsNumberSuffix 10 suffix → ⊥
    clash [] suffix k e s = k
    clash (c ∷ tail) [] k e s = cc
    clash (c ∷ tail) (d ∷ suffix) k e s =
        let same : c ≡ d = cc in
        false≢true (sym (starts_no_suffix c tail k.0) ∙ ap (starts_number_suffix 10) same ∙ s.0)

pub fraction_scaled : (text piece rest : List ℕ) → IsLongestPrefix IsScaled text piece rest →
    IsLongestPrefix IsFraction text piece rest
fraction_scaled text piece rest t = record {
  cut = t.cut;
  spelled = inl t.spelled;
  longest = λ more after e h. elim h [
    | inl s ↦ t.longest more after e s
    | inr d ↦ absurd
        (scaled_decimal piece more t.spelled d)
  ];
}

pub fraction_decimal : (text : List ℕ) (answer : Option (Bor (List ℕ))) →
    (HasPrefix IsScaled text → ⊥) → ReadsLongest IsDecimal text answer →
    ReadsLongest IsFraction text answer
fraction_decimal text answer fails t = either_second IsScaled IsDecimal text answer fails t

pub tail_point : (text rest : List ℕ) (answer : Option (Bor (List ℕ))) → text ≡ 46 ∷ rest →
    ReadsLongest IsFraction rest answer → ReadsLongest IsFloatTail text answer
tail_point text rest answer e t =
    either_first (After 46 IsFraction) IsExponent text answer
    (no_exponent text (ap is_exponent e)) (tries_after 46 IsFraction text rest answer e t)

pub tail_exponent : (text : List ℕ) (answer : Option (Bor (List ℕ))) →
    ((more : List ℕ) → text ≡ 46 ∷ more → ⊥) → ReadsLongest IsExponent text answer →
    ReadsLongest IsFloatTail text answer
tail_exponent text answer n t = either_second (After 46 IsFraction) IsExponent text answer
    (no_after 46 IsFraction text n) t

pub tries_point : (text : List ℕ) (answer : Option (Bor (List ℕ))) →
    MatchOption answer ((more : List ℕ) → text ≡ 46 ∷ more → ⊥)
    (λ rest. text ≡ 46 ∷ chars rest.now) → ReadsLongest (λ tail. tail ≡ 46 ∷ []) text answer
tries_point text None n = λ (piece, after, cut, e). n after (cc)
tries_point text (Some rest) e = (
  46 ∷ [],
  record {
    cut = e;
    spelled = refl;
    longest = λ more after f g. cc;
  },
)
