-- U+0000 in texts, and in what they mean.
use Rattle.std.proofs.Common.{◌≡◌, ◌∙◌, ◌+◌, ◌*◌, ℕ, zero, suc, List, [], ◌∷◌, ◌++◌, Bool}
use Rattle.std.proofs.Common.{append-nil, true, false, ap, arith, inl, inr, refl, sym}
use Rattle.std.specs.Ffi.{HasNoNul}
use Rattle.std.specs.Prelude.{◌==◌, ◌||◌, ◌&&◌, encode_utf8, encode_utf8_all, fold, if◌then◌else◌}
use Rattle.std.specs.Char.{digit_value, is_digit}
use Rattle.std.specs.List.{list_all, list_any}
use Rattle.std.proofs.lemmas.Bool.{and_parts, cases_lt, or_from, or_parts, or_right, cases_Bool}
use Rattle.std.proofs.lemmas.Bool.{eqb-false, ne_eqb, not-true}
use Rattle.std.proofs.lemmas.Bool.Decides.{nat_tests}
use Rattle.std.proofs.lemmas.List.Folds.{list_any-append}
use Rattle.std.proofs.lemmas.Str.{encode_ascii, inside_one}
use Rattle.tok_lexical.specs.Contents.{has_misfit, has_quote, has_zero, only_zeros}
use Rattle.tok_lexical.specs.Pieces.{is_neither}
use Rattle.tok_lexical.specs.Strings.{is_hex_or_underscore}
use Rattle.tok_lexical.specs.declared.contents.Contents.TheVariants.{C}

-- a character is U+0000, or a byte is zero
abbrev pub has_null : List ℕ → Bool
has_null = list_any (λ c. c == 0)

pub or_end : (b : Bool) → (b || false) ≡ b
or_end true = refl
or_end false = refl

and_end : (b : Bool) → b ≡ (b && true)
and_end true = refl
and_end false = refl

-- characters that are neither U+0000 nor a backslash name none
pub passed : (front rest : List ℕ) → list_all (is_neither 0 92) front ≡ true →
    (has_null (front ++ rest) ≡ has_null rest)
    × (has_zero false (front ++ rest) ≡ has_zero false rest)
passed [] rest h = (refl, refl)
passed (c ∷ front) rest h =
    let both = and_parts (is_neither 0 92 c) _ h in
    let one = or_parts (c == 0) (c == 92) (not-true _ both.0) in
    let more = passed front rest both.1 in (simp one.0 more.0, simp one.1 more.1)

pub no_nul : (bytes : List ℕ) → has_null bytes ≡ false → HasNoNul bytes
no_nul [] h i l = absurd (omega (arith, l))
no_nul (b ∷ bytes) h zero l = eqb-false b 0 (or_parts (b == 0) (has_null bytes) h).0
no_nul (b ∷ bytes) h (suc i) l =
    no_nul bytes (or_parts (b == 0) (has_null bytes) h).1 i (omega (arith, l))

pub no_null : (bytes : List ℕ) → HasNoNul bytes → has_null bytes ≡ false
no_null [] none = refl
no_null (b ∷ bytes) none =
    or_from (b == 0) (has_null bytes)
    (ne_eqb b 0 (none 0 (omega arith)))
    (no_null bytes (λ i l. none (suc i) (omega arith)))

-- in UTF-8 nothing else has a zero
encoded_null : (c : ℕ) → has_null (encode_utf8 c) ≡ (c == 0)
encoded_null c =
    elim (cases_lt c 128) [
      | inl small ↦ ap has_null (encode_ascii c small) ∙ or_end (c == 0)
      | inr big ↦
          no_null (encode_utf8 c) (λ i l e.
          let same = inside_one c [] (encode_utf8 c) i (sym (append-nil _)) l
          (omega (arith, e)) in
          omega (arith, same, e, big))
          ∙ sym (ne_eqb c 0 (λ e. omega (arith, e, big)))
    ]

pub all_encoded_null : (text : List ℕ) → has_null (encode_utf8_all text) ≡ has_null text
all_encoded_null [] = refl
all_encoded_null (c ∷ text) = rw (list_any-append, encoded_null, all_encoded_null text)

pub no_misfit : (text : List ℕ) → has_null text ≡ false → has_misfit C text ≡ false
no_misfit [] h = refl
no_misfit (c ∷ text) h =
    let both = or_parts (c == 0) (has_null text) h in
    simp both.0 (no_misfit text both.1)

pub quote_found : (front rest : List ℕ) → has_quote (front ++ 34 ∷ rest) ≡ true
quote_found [] rest = refl
quote_found (c ∷ front) rest = or_right (c == 34) _ (quote_found front rest)

-- before a quote U+0000 is no character of a C string
pub misfit_null : (front rest : List ℕ) → has_null rest ≡ false →
    has_misfit C (front ++ 34 ∷ rest) ≡ has_null (front ++ 34 ∷ rest)
misfit_null [] rest h = no_misfit rest h ∙ sym h
misfit_null (c ∷ front) rest h =
    let same = misfit_null front rest h in
    let found = quote_found front rest in
    elim (cases_Bool (c == 0)) [ inl z ↦ simp (z, found) | inr z ↦ simp z same ]

-- two digits write zero if both are
sum_zero : (a b : ℕ) → ((a * 16 + b) == 0) ≡ ((a == 0) && (b == 0))
sum_zero a b = grind (arith, nat_tests)

digit_zero : (c : ℕ) → (digit_value c == 0) ≡ (c == 48)
digit_zero c = grind (arith, nat_tests)

pub digits_zero : (high low : ℕ) →
    ((digit_value high * 16 + digit_value low) == 0) ≡ ((high == 48) && (low == 48))
digits_zero high low = simp (sum_zero, digit_zero)

-- the number that digits and underscores write
abbrev and_digit : ℕ → ℕ → ℕ
and_digit n c = if is_digit c 16 then n * 16 + digit_value c else n

digit_more : (n c : ℕ) (more : Bool) → is_hex_or_underscore c ≡ true →
    ((and_digit n c == 0) && more)
    ≡ ((n == 0) && ((c == 125) || (((c == 48) || (c == 95)) && more)))
digit_more n c more h = grind (arith, nat_tests)

pub code_zero : (digits rest : List ℕ) (n : ℕ) → list_all is_hex_or_underscore digits ≡ true →
    (fold and_digit n digits == 0) ≡ ((n == 0) && only_zeros (digits ++ 125 ∷ rest))
code_zero [] rest n h = and_end (n == 0)
code_zero (c ∷ digits) rest n h =
    let both = and_parts (is_hex_or_underscore c) (list_all is_hex_or_underscore digits) h in
    rw (code_zero digits rest (and_digit n c) both.1)
    (digit_more n c (only_zeros (digits ++ 125 ∷ rest)) both.0)
