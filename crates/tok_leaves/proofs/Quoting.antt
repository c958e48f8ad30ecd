-- The text of a string literal, one character further, and its length.
use Rattle.std.proofs.Common.{◌≡◌, ◌∙◌, ℕ, ◌+◌, ◌<◌, ◌≤◌, List, [], ◌∷◌, ◌++◌, sym, ap, arith, refl}
use Rattle.std.proofs.Common.{append_assoc, count_by, cond, false, get_or, inl, inr, length, length-append}
use Rattle.std.proofs.Common.{suc, true}
use Rattle.std.specs.Prelude.{◌==◌}
use Rattle.std.specs.Prelude.{encode_utf8, encode_utf8_all, codes}
use Rattle.std.specs.List.{flat_map}
use Rattle.std.specs.Str.{chars, IsUtf8}
use Rattle.std.proofs.lemmas.Bool.{agree_below_at, cases_lt, eqb-true}
use Rattle.std.proofs.lemmas.Bool.Decides.{nat_tests}
use Rattle.std.proofs.lemmas.List.{append-nil}
use Rattle.std.proofs.lemmas.List.Sums.{sum_by-append, sum_by-cons}
use Rattle.std.proofs.lemmas.Str.{chars_past_char, encode_ascii, encodes-chars, inside_one}
use Rattle.tok_leaves.specs.Quoting.{escaped, in_quotes}
use Rattle.tok_leaves.specs.Private.Plain.{has_escape}

pub quoted_more : (written : ℕ → List ℕ) (text rest out new all : List ℕ) (c : ℕ) → IsUtf8 text →
    text ≡ encode_utf8 c ++ rest → new ≡ out ++ written c → out ++ flat_map written (chars text)
    ≡ all → new ++ flat_map written (chars rest) ≡ all
quoted_more written text rest out new all c u e n h =
    cc (
      append_assoc out (written c) (flat_map written (chars rest)),
      chars_past_char text rest c u e,
    )

pub quoted_end : (written : ℕ → List ℕ) (text rest out new mark : List ℕ) → chars rest ≡ [] →
    out ++ flat_map written (chars rest) ≡ codes "\"" ++ flat_map written (chars text) →
    mark ≡ codes "\"" → new ≡ out ++ mark → new ≡ codes "\""
    ++ (flat_map written (chars text) ++ codes "\"")
quoted_end written text rest out new mark e h m n =
    cc (append-nil out)

-- the bytes that stand for a character are as many as its own, and one more for an escape
low_length : (c : ℕ) → c < 128 → length (escaped c) ≡ length (c ∷ [])
    + count_by has_escape (c ∷ [])
unfolding lib.Utf8.encode
low_length c low = eqb-true _ _
    (agree_below_at (λ x. length (escaped x) == length (x ∷ []) + count_by has_escape (x ∷ []))
    (λ x. true) 128 c refl low)

high_escaped : (c : ℕ) → 128 ≤ c → escaped c ≡ encode_utf8 c
high_escaped c h = grind (arith, nat_tests)

high_fails : (b : ℕ) → 128 ≤ b → has_escape b ≡ false
high_fails b h = grind (arith, nat_tests)

none_counted : (bytes : List ℕ) → ((k : ℕ) → k < length bytes → 128 ≤ get_or bytes k 0) →
    count_by has_escape bytes ≡ 0
none_counted [] high = refl
none_counted (b ∷ bytes) high =
    let first = ap (λ t. cond {A = ℕ} t 1 0) (high_fails b (high 0 (omega arith))) in
    let others = none_counted bytes (λ k l. high (suc k) (omega arith)) in
    omega (arith, sum_by-cons (λ x. cond (has_escape x) 1 0) b bytes, first, others)

high_bytes : (c : ℕ) → 128 ≤ c → (k : ℕ) → k < length (encode_utf8 c)
    → 128 ≤ get_or (encode_utf8 c) k 0
high_bytes c high k l = elim (cases_lt (get_or (encode_utf8 c) k 0) 128) [
  | inl below ↦ absurd (omega (
    arith,
    high,
    below,
    inside_one c [] (encode_utf8 c) k (sym (append-nil (encode_utf8 c))) l below,
  ))
  | inr above ↦ omega (arith, above)
]

one_length : (c : ℕ) → length (escaped c) ≡ length (encode_utf8 c)
    + count_by has_escape (encode_utf8 c)
one_length c = elim (cases_lt c 128) [
  | inl low ↦ low_length c low
      ∙ ap (λ w. length w + count_by has_escape w) (sym (encode_ascii c low))
  | inr high ↦ ap length (high_escaped c (omega (arith, high)))
      ∙ omega (arith, none_counted (encode_utf8 c) (high_bytes c (omega (arith, high))))
]

counted_apart : (front rest : List ℕ) → count_by has_escape (front ++ rest)
    ≡ count_by has_escape front + count_by has_escape rest
counted_apart = sum_by-append (λ x. cond (has_escape x) 1 0)

all_length : (cs : List ℕ) → length (flat_map escaped cs) ≡ length (encode_utf8_all cs)
    + count_by has_escape (encode_utf8_all cs)
all_length [] = refl
all_length (c ∷ cs) =
    let counted = counted_apart (encode_utf8 c) (encode_utf8_all cs) in
    omega (
      arith,
      length-append (escaped c) (flat_map escaped cs),
      length-append (encode_utf8 c) (encode_utf8_all cs),
      counted,
      one_length c,
      all_length cs,
    )

-- the length of a text in quotes
pub quoted_length : (text : List ℕ) → IsUtf8 text → length (in_quotes (chars text))
    ≡ length text + count_by has_escape text + 2
quoted_length text u =
    let inside = rw (encodes-chars text u) at (all_length (chars text)) in
    omega (arith, inside, length-append (flat_map escaped (chars text)) (codes "\""))
