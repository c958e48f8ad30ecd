-- Digits are ASCII: their bytes say what their characters do.
use Rattle.std.proofs.Common.{◌≡◌, ◌∙◌, ℕ, suc, ◌+◌, ◌*◌, ◌<◌, ◌≤◌, List, [], ◌∷◌, length, get_or}
use Rattle.std.proofs.Common.{Bool, true, refl, sym, ap, arith, inl, inr}
use Rattle.std.specs.Prelude.{encode_utf8, encode_utf8_all, fold, if◌then◌else◌}
use Rattle.std.specs.Char.{is_digit, digit_value}
use Rattle.std.specs.Str.{chars, IsUtf8}
use Rattle.std.proofs.lemmas.Bool.{cases_lt, false_from_ne_true}
use Rattle.std.proofs.lemmas.Grind.{fold-append}
use Rattle.std.proofs.lemmas.List.{append-nil}
use Rattle.std.proofs.lemmas.Str.{encode_ascii, encodes-chars, inside_one}
use Rattle.tok_lexical.specs.Numbers.{starts_digit}
use Rattle.tok_lexical.specs.Private.Scans.{AllPass}
use Rattle.tok_lexical.proofs.Digits.{digit_low}
use Rattle.tok_lexical.proofs.Runs.{ascii_test, begins_as}
use Rattle.tok_values.specs.Numbers.{number}
use Rattle.tok_values.proofs.Digits.{step}

pub first_digit : (text : List ℕ) (x : ℕ) → IsUtf8 text → 0 < length text → x ≡ get_or text 0 0 →
    is_digit x 10 ≡ starts_digit (chars text)
first_digit =
    begins_as (λ c. is_digit c 10)
    (ascii_test (λ c. is_digit c 10) (λ c p. digit_low 10 c (omega arith) p)) starts_digit refl
    (λ c rest. refl)

module _ (radix : ℕ) (small : radix ≤ 16) where
  fold_none : (xs : List ℕ) (n : ℕ) → ((k : ℕ) → k < length xs →
      is_digit (get_or xs k 0) radix ≡ true → ⊥) → fold (step radix) n xs ≡ n
  fold_none [] n none = refl
  fold_none (x ∷ xs) n none =
      simp (false_from_ne_true (is_digit x radix) (none 0 (omega arith)))
      (fold_none xs n (λ k h p. none (suc k) (omega arith) p))

  fold_one : (c n : ℕ) → fold (step radix) n (encode_utf8 c) ≡ step radix n c
  fold_one c n = elim (cases_lt c 128) [
    | inl low ↦ rw (encode_ascii c low)
    | inr high ↦
        fold_none (encode_utf8 c) n (λ k h p.
        let low = digit_low radix (get_or (encode_utf8 c) k 0) small p in
        let same = inside_one c [] (encode_utf8 c) k (sym (append-nil (encode_utf8 c))) h low in
        absurd (omega (arith, same, low, high)))
        ∙ sym (ap (λ b. if b then n * radix + digit_value c else n)
        (false_from_ne_true (is_digit c radix)
        (λ p. let low = digit_low radix c small p in absurd (omega (arith, low, high)))))
  ]

  fold_encoded : (cs : List ℕ) (n : ℕ) → fold (step radix) n (encode_utf8_all cs)
      ≡ fold (step radix) n cs
  fold_encoded [] n = refl
  fold_encoded (c ∷ cs) n =
      rw (fold-append (step radix) n (encode_utf8 c) (encode_utf8_all cs), fold_one c n)
      (fold_encoded cs (step radix n c))

  -- the number that the bytes write
  pub number_of_bytes : (text : List ℕ) → IsUtf8 text → fold (step radix) 0 text
      ≡ number radix (chars text)
  number_of_bytes text u = cc (encodes-chars text u, fold_encoded (chars text) 0)

-- one digit more
pub one_passes : (p : ℕ → Bool) (bytes : List ℕ) (end : ℕ) → AllPass p bytes 0 end →
    p (get_or bytes end 0) ≡ true → AllPass p bytes 0 (end + 1)
one_passes p bytes end before here k from to = elim (cases_lt k end) [
  | inl early ↦ before k from early
  | inr late ↦ let same : k ≡ end = omega arith in rw same here
]
