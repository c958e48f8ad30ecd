-- Plain characters are written as they are.
use Rattle.std.proofs.Common.{◌≡◌, ℕ, ◌<◌, List, [], ◌∷◌, ◌++◌, refl}
use Rattle.std.proofs.Common.{arith, true, false, append_assoc}
use Rattle.std.specs.Prelude.{not, Bool, ◌||◌, encode_utf8, encode_utf8_all, count_by}
use Rattle.std.specs.List.{list_all, flat_map}
use Rattle.std.proofs.lemmas.Bool.{and_parts, agree_below_at}
use Rattle.std.proofs.lemmas.Bool.Decides.{nat_tests}
use Rattle.tok_lexical.specs.Pieces.{Skips}
use Rattle.tok_lexical.specs.Scans.{IsAsciiTest}
use Rattle.tok_leaves.specs.Quoting.{escaped, is_unseen, shown}
use Rattle.tok_leaves.specs.Private.Plain.{has_escape, is_plain, is_unescaped}

plain_low : (c : ℕ) → is_plain c ≡ true → c < 128
plain_low c p = grind (arith, nat_tests)

pub plain_ascii_test : IsAsciiTest is_plain
plain_ascii_test c high = grind (arith, nat_tests)

plain_seen : (c : ℕ) → is_plain c ≡ true → is_unseen c ≡ false
plain_seen c p = seen (is_plain c) (is_unseen c) p
    (agree_below_at (λ b. not (is_plain b) || not (is_unseen b)) (λ _. true) 256 c refl
    (omega (arith, plain_low c p)))
  where
    seen : (plain unseen : Bool) → plain ≡ true → (not plain || not unseen) ≡ true →
        unseen ≡ false
    seen plain unseen p h = grind arith

pub escaped_plain : (c : ℕ) → is_plain c ≡ true → escaped c ≡ encode_utf8 c
escaped_plain c p = grind (arith, nat_tests)

pub shown_plain : (c : ℕ) → is_plain c ≡ true → shown c ≡ encode_utf8 c
shown_plain c p = rw (plain_seen c p) (escaped_plain c p)

as_they_are : (written : ℕ → List ℕ) → ((c : ℕ) → is_plain c ≡ true → written c ≡ encode_utf8 c) →
    (front rest : List ℕ) → list_all is_plain front ≡ true → flat_map written (front ++ rest)
    ≡ encode_utf8_all front ++ flat_map written rest
as_they_are written same [] rest p = refl
as_they_are written same (c ∷ front) rest p =
    let both = and_parts (is_plain c) (list_all is_plain front) p in
    cc (
      same c both.0,
      as_they_are written same front rest both.1,
      append_assoc (encode_utf8 c) (encode_utf8_all front) (flat_map written rest),
    )

pub plain_more : (written : ℕ → List ℕ) (text front rest out new all : List ℕ) →
    ((c : ℕ) → is_plain c ≡ true → written c ≡ encode_utf8 c) → Skips is_plain text front rest →
    new ≡ out ++ encode_utf8_all front → out ++ flat_map written text ≡ all →
    new ++ flat_map written rest ≡ all
plain_more written text front rest out new all same skips n h =
    cc (
      append_assoc out (encode_utf8_all front) (flat_map written rest),
      as_they_are written same front rest skips.pass,
      skips.cut,
    )

-- the bytes that aren't unescaped are those with an escape
pub escapes_counted : (bytes : List ℕ) → count_by (λ b. not (is_unescaped b)) bytes
    ≡ count_by has_escape bytes
escapes_counted bytes = λ i. count_by (λ b. twice (has_escape b) i) bytes
  where
    twice : (b : Bool) → not (not b) ≡ b
    twice true = refl
    twice false = refl
