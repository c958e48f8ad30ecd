-- What an escape of the grammar names: a character.
use Rattle.std.proofs.Common.{◌≡◌, ◌∙◌, ◌⊎◌, ◌+◌, ◌*◌, ℕ, List, [], ◌∷◌, ◌++◌, Bool, None, Some}
use Rattle.std.proofs.Common.{arith, true, false, ap, append_assoc, inl, inr, refl, sym}
use Rattle.std.specs.Prelude.{◌==◌, ◌||◌, ◌&&◌, if◌then◌else◌, nat_lt}
use Rattle.std.specs.Char.{digit_value, is_digit}
use Rattle.std.specs.List.{list_all}
use Rattle.std.proofs.lemmas.Bool.{and_from, ne_eqb, or_left}
use Rattle.std.proofs.lemmas.Bool.Decides.{nat_tests}
use Rattle.tok_lexical.specs.Contents.{has_zero}
use Rattle.tok_lexical.specs.Pieces.{is_neither}
use Rattle.tok_lexical.specs.Strings.{IsCode, IsHex, is_hex_or_underscore, is_simple_escape}
use Rattle.tok_values.specs.Escapes.{and_rest, escape, named_char}
use Rattle.tok_values.specs.Numbers.{is_digits, number}
use Rattle.tok_values.specs.Strings.{ends_line, unit}
use Rattle.tok_values.proofs.Codes.{code_closed}
use Rattle.tok_values.proofs.Zeros.{code_zero, digits_zero, has_null, or_end, passed}
use Rattle.tok_values.proofs.Passing.{all_pass}

-- characters of a class that two characters aren't in
pub neither_of : (a b : ℕ) (p : ℕ → Bool) → p a ≡ false → p b ≡ false → (c : ℕ) → p c ≡ true →
    is_neither a b c ≡ true
neither_of a b p e f c h =
    let first : (c == a) ≡ false = ne_eqb c a (λ g. cc) in
    let second : (c == b) ≡ false = ne_eqb c b (λ g. cc) in
    simp (first, second)

pub all_neither : (a b : ℕ) (p : ℕ → Bool) → p a ≡ false → p b ≡ false → (text : List ℕ) →
    list_all p text ≡ true → list_all (is_neither a b) text ≡ true
all_neither a b p e f = all_pass p (is_neither a b) (neither_of a b p e f)

-- after a backslash this text names a character, and the rest is after it
pub record Names (wide : Bool) (text rest : List ℕ) : Type 0 where
  pub char : ℕ
  pub is : escape wide (text ++ rest) ≡ Some (char, rest)
  pub in_line : ends_line (text ++ rest) ≡ false
  pub zero : has_zero true (text ++ rest) ≡ ((char == 0) || has_zero false rest)
  pub null : has_null (text ++ rest) ≡ has_null rest

-- which is a unit
pub named_unit : {wide : Bool} {text rest : List ℕ} → (n : Names wide text rest) →
    unit wide (92 ∷ (text ++ rest)) ≡ Some (n.char ∷ [], rest)
named_unit {wide} {text} {rest} n = simp (n.in_line, n.is)

simple_cases : (c : ℕ) → is_simple_escape c ≡ true →
    (c ≡ 34) ⊎ ((c ≡ 39) ⊎ ((c ≡ 48) ⊎ ((c ≡ 92) ⊎ ((c ≡ 116) ⊎ ((c ≡ 110) ⊎ (c ≡ 114))))))
simple_cases c h = grind (arith, nat_tests)

pub simple_names : (wide : Bool) (c : ℕ) (rest : List ℕ) → is_simple_escape c ≡ true →
    Names wide (c ∷ []) rest
simple_names wide c rest h =
    elim (simple_cases c h) [
      | inl e ↦ by 34 34 e refl refl refl refl
      | inr (inl e) ↦ by 39 39 e refl refl refl refl
      | inr (inr (inl e)) ↦ by 48 0 e refl refl refl refl
      | inr (inr (inr (inl e))) ↦ by 92 92 e refl refl refl refl
      | inr (inr (inr (inr (inl e)))) ↦ by 116 9 e refl refl refl refl
      | inr (inr (inr (inr (inr (inl e))))) ↦ by 110 10 e refl refl refl refl
      | inr (inr (inr (inr (inr (inr e))))) ↦ by 114 13 e refl refl refl refl
    ]
  where
    by : (d char : ℕ) → c ≡ d → escape wide (d ∷ rest) ≡ Some (char, rest) →
        ends_line (d ∷ rest) ≡ false →
        has_zero true (d ∷ rest) ≡ ((char == 0) || has_zero false rest) →
        has_null (d ∷ rest) ≡ has_null rest → Names wide (c ∷ []) rest
    by d char e is in_line zero null =
        rw e (record { char = char; is = is; in_line = in_line; zero = zero; null = null })

-- the least character that is no digit
no_digit : (wide : Bool) → nat_lt 36 (if wide then 16 else 8) ≡ false
no_digit true = refl
no_digit false = refl

pub hex_names : (wide : Bool) (text rest : List ℕ) → IsHex (if wide then 16 else 8) text →
    Names wide (120 ∷ text) rest
hex_names wide text rest (high, low, e, h, l) =
    let n : ℕ = digit_value high * 16 + digit_value low in
    let digits : List ℕ = high ∷ low ∷ [] in
    let other = passed digits rest (and_from _ _
    (neither_of 0 92 (λ c. is_digit c (if wide then 16 else 8)) (no_digit wide) (no_digit wide) high
    h)
    (and_from _ true (neither_of 0 92 (λ c. is_digit c 16) refl refl low l) refl)) in
    let zeros : ((((high == 48) && (low == 48)) || false) ≡ (n == 0)) =
    or_end ((high == 48) && (low == 48)) ∙ sym (digits_zero high low) in record {
      char = n;
      is = simp (e, h, l);
      in_line = refl;
      zero = cc (zeros, other.1);
      null = cc (other.0);
    }

pub code_names : (text rest : List ℕ) → IsCode text → Names false (117 ∷ text) rest
code_names text rest (first, digits, e, h, all, names) =
    let value : ℕ = number 16 (first ∷ digits) in
    let hex : list_all is_hex_or_underscore (first ∷ digits) ≡ true =
    and_from _ _ (or_left _ _ h) all in
    let are : is_digits 16 (first ∷ digits) ≡ true = and_from _ _ (or_left _ _ h) hex in
    let named : named_char (first ∷ digits) ≡ Some value =
    simp are (ap (λ b. if b then Some value else None) names.scalar) in
    let apart = append_assoc digits (125 ∷ []) rest in
    let other = passed (first ∷ digits) (125 ∷ rest)
    (all_neither 0 92 is_hex_or_underscore refl refl (first ∷ digits) hex) in
    let closed = code_closed (123 ∷ first ∷ (digits ++ 125 ∷ rest)) (first ∷ (digits ++ 125 ∷ rest))
    (first ∷ digits) (125 ∷ rest) refl (record {
      cut = refl;
      pass = all_neither 125 125 is_hex_or_underscore refl refl (first ∷ digits) hex;
      stops = refl;
    }) rest refl in record {
      char = value;
      is =
          ap (λ t. escape false (117 ∷ (t ++ rest))) e
          ∙ ap (λ t. escape false (117 ∷ 123 ∷ first ∷ t)) apart ∙ closed
          ∙ ap (λ o. and_rest o rest) named;
      in_line = refl;
      zero = cc (e, code_zero (first ∷ digits) rest 0 hex, other.1);
      null = cc (e, other.0);
    }
