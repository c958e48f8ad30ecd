-- How a string literal writes a character, and what that means.
use Rattle.std.proofs.Common.{◌≡◌, ◌<◌, ℕ, List, [], ◌∷◌, ◌++◌, Some}
use Rattle.std.proofs.Common.{Bool, true, false, refl, eqb-true, arith}
use Rattle.std.specs.Prelude.{◌==◌, ◌&&◌, if◌then◌else◌, encode_utf8, encode_utf8_all, nat_le}
use lib.Utf8.{scalars}
use Rattle.std.proofs.lemmas.Bool.{and_from, and_parts, cond_both}
use Rattle.std.proofs.lemmas.List.{append-nil}
use Rattle.std.proofs.lemmas.Str.{encodes-IsAscii}
use Rattle.std.proofs.lemmas.Str.Ascii.{IsAscii-cons, IsAscii-nil}
use Rattle.tok_leaves.specs.Quoting.{escaped}
use Rattle.tok_values.specs.Strings.{unit}

-- a character, or the escape that stands for it
abbrev pub written : ℕ → List ℕ
written c =
    if c == 34 then 92 ∷ 34 ∷ [] else
    if c == 92 then 92 ∷ 92 ∷ [] else
    if c == 10 then 92 ∷ 110 ∷ [] else
    if c == 13 then 92 ∷ 114 ∷ [] else
    if c == 9 then 92 ∷ 116 ∷ [] else
    if c == 0 then 92 ∷ 48 ∷ [] else c ∷ []

-- what holds of each escape, and of each other character, holds of what is written
pub written_cases : (P : ℕ → List ℕ → Type 0) → P 34 (92 ∷ 34 ∷ []) → P 92 (92 ∷ 92 ∷ []) →
    P 10 (92 ∷ 110 ∷ []) → P 13 (92 ∷ 114 ∷ []) → P 9 (92 ∷ 116 ∷ []) → P 0 (92 ∷ 48 ∷ []) →
    ((c : ℕ) → (c == 34) ≡ false → (c == 92) ≡ false → (c == 10) ≡ false → (c == 13) ≡ false →
    (c == 9) ≡ false → (c == 0) ≡ false → P c (c ∷ [])) → (c : ℕ) → P c (written c)
written_cases P quote slash feed return tab nul plain c =
    cond_both (c == 34) _ _ (P c) (λ e. rw (eqb-true c 34 e) quote)
    (λ q. cond_both (c == 92) _ _ (P c) (λ e. rw (eqb-true c 92 e) slash)
    (λ s. cond_both (c == 10) _ _ (P c) (λ e. rw (eqb-true c 10 e) feed)
    (λ f. cond_both (c == 13) _ _ (P c) (λ e. rw (eqb-true c 13 e) return)
    (λ r. cond_both (c == 9) _ _ (P c) (λ e. rw (eqb-true c 9 e) tab)
    (λ t. cond_both (c == 0) _ _ (P c) (λ e. rw (eqb-true c 0 e) nul)
    (λ n. plain c q s f r t n))))))

pub one_byte : (c : ℕ) → c < 128 → encode_utf8_all (c ∷ []) ≡ c ∷ []
one_byte c h = encodes-IsAscii (c ∷ []) (IsAscii-cons c [] h IsAscii-nil)

pub two : (a b : ℕ) → a < 128 → b < 128 → encode_utf8_all (a ∷ b ∷ []) ≡ a ∷ b ∷ []
two a b p q =
    encodes-IsAscii (a ∷ b ∷ []) (IsAscii-cons a (b ∷ []) p (IsAscii-cons b [] q IsAscii-nil))

pub encodes_escape : (c : ℕ) → encode_utf8_all (written c) ≡ escaped c
encodes_escape =
    written_cases (λ c w. encode_utf8_all w ≡ escaped c) (two 92 34 (omega arith) (omega arith))
    (two 92 92 (omega arith) (omega arith)) (two 92 110 (omega arith) (omega arith))
    (two 92 114 (omega arith) (omega arith)) (two 92 116 (omega arith) (omega arith))
    (two 92 48 (omega arith) (omega arith))
    (λ c q s f r t n. simp (q, s, f, r, t, n) (append-nil (encode_utf8 c)))

pub one_scalars : (c : ℕ) → scalars (c ∷ []) ≡ true → scalars (written c) ≡ true
one_scalars =
    written_cases (λ c w. scalars (c ∷ []) ≡ true → scalars w ≡ true) (λ _. refl) (λ _. refl)
    (λ _. refl) (λ _. refl) (λ _. refl) (λ _. refl) (λ c q s f r t n h. h)

pub scalars-append : (xs ys : List ℕ) → scalars xs ≡ true → scalars ys ≡ true
    → scalars (xs ++ ys) ≡ true
scalars-append [] ys h k = k
scalars-append (x ∷ xs) ys h k =
    let w = and_parts _ (scalars xs) h in
    and_from _ (scalars (xs ++ ys)) w.0 (scalars-append xs ys w.1 k)

-- a character that means itself
pub plain_unit : (wide : Bool) (c : ℕ) (rest : List ℕ) → (c == 92) ≡ false → (c == 34) ≡ false →
    (c == 13) ≡ false → (wide && nat_le 128 c) ≡ false →
    unit wide (c ∷ rest) ≡ Some (c ∷ [], rest)
plain_unit wide c rest slash quote return narrow = simp (slash, quote, return, narrow)

pub unit_is : (c : ℕ) (rest : List ℕ) → unit false (written c ++ rest) ≡ Some (c ∷ [], rest)
unit_is c rest =
    written_cases (λ d w. unit false (w ++ rest) ≡ Some (d ∷ [], rest)) refl refl refl refl refl
    refl (λ d q s f r t n. plain_unit false d rest s q r refl) c
