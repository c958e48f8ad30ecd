-- The suffixes of literals.
use Rattle.std.proofs.Common.{◌≡◌, ◌∙◌, ◌||◌, ◌++◌, ◌∷◌, [], arith, Bool, eqb-true, false, inl, inr}
use Rattle.std.proofs.Common.{List, refl, sym, true, ℕ}
use Rattle.std.specs.Char.{is_ascii_alphabetic, is_digit}
use Rattle.std.specs.List.{list_all}
use Rattle.std.specs.Prelude.{◌==◌, ◌⊎◌, cond}
use Rattle.unicode_ident.specs.Ident.{is_xid_continue}
use Rattle.unicode_ident.proofs.IdentLemmas.{is_xid_continue-ascii}
use Rattle.tok_lexical.specs.Ascii.{minus}
use Rattle.tok_lexical.specs.Numbers.{IsNumberSuffix, is_digit_or_underscore, starts_digit}
use Rattle.tok_lexical.specs.Pieces.{Skips, Stops}
use Rattle.tok_lexical.specs.Words.{IsIdentifier, IsSuffix, is_identifier_start}
use Rattle.tok_lexical.proofs.Digits.{head_passes, tail_passes}
use Rattle.tok_lexical.proofs.Identifiers.{letter_start}
use Rattle.tok_values.specs.Integers.{base_of, IsInteger}
use Rattle.tok_values.specs.Suffixes.{after_digits, after_exponent, after_fraction, after_marks}
use Rattle.tok_values.specs.Suffixes.{IntegersHaveTheirSuffix, is_mark, literal_suffix}
use Rattle.tok_values.specs.Suffixes.{number_suffix, QuotedHaveTheirSuffix, without_minus}
use Rattle.std.proofs.lemmas.Bool.{false_from_ne_true, not-true, or_parts}
use Rattle.std.proofs.lemmas.Bool.Decides.{nat_tests}

-- what follows digits that were skipped
digits_stop : (radix : ℕ) (rest : List ℕ) → Stops (is_digit_or_underscore radix) rest →
    after_digits radix rest ≡ rest
digits_stop radix [] s = refl
digits_stop radix (c ∷ rest) s = simp s

pub digits_pass : (radix : ℕ) (digits rest : List ℕ) →
    list_all (is_digit_or_underscore radix) digits ≡ true →
    Stops (is_digit_or_underscore radix) rest → after_digits radix (digits ++ rest) ≡ rest
digits_pass radix [] rest h s = digits_stop radix rest s
digits_pass radix (c ∷ digits) rest h s =
    simp (head_passes (is_digit_or_underscore radix) c digits h)
    (digits_pass radix digits rest (tail_passes (is_digit_or_underscore radix) c digits h) s)

pub after_skips : (radix : ℕ) (text digits rest : List ℕ) →
    Skips (is_digit_or_underscore radix) text digits rest → after_digits radix text ≡ rest
after_skips radix text digits rest s = rw s.cut (digits_pass radix digits rest s.pass s.stops)

-- no mark stands in an identifier
mark_cases : (P : ℕ → Type 0) (c : ℕ) → is_mark c ≡ true → P 34 → P 39 → P 35 → P c
mark_cases P c h quote apostrophe sign =
    let cases : (c ≡ 34) ⊎ ((c ≡ 39) ⊎ (c ≡ 35)) = grind (arith, nat_tests) in
    elim cases [ inl e ↦ rw e quote | inr (inl e) ↦ rw e apostrophe | inr (inr e) ↦ rw e sign ]

mark_ends : (c : ℕ) → is_mark c ≡ true → is_xid_continue c ≡ false
mark_ends c h =
    mark_cases (λ d. is_xid_continue d ≡ false) c h (is_xid_continue-ascii 34 (omega arith))
    (is_xid_continue-ascii 39 (omega arith)) (is_xid_continue-ascii 35 (omega arith))

mark_begins_none : (c : ℕ) → is_mark c ≡ true → is_identifier_start c ≡ false
mark_begins_none c h =
    mark_cases (λ d. is_identifier_start d ≡ false) c h
    (sym (letter_start 34 (omega arith) (is_ascii_alphabetic 34) refl))
    (sym (letter_start 39 (omega arith) (is_ascii_alphabetic 39) refl))
    (sym (letter_start 35 (omega arith) (is_ascii_alphabetic 35) refl))

no_mark : (p : ℕ → Bool) → ((c : ℕ) → is_mark c ≡ true → p c ≡ false) → (c : ℕ) →
    p c ≡ true → is_mark c ≡ false
no_mark p none c h = false_from_ne_true (is_mark c) (λ e. let f = none c e in absurd (cc))

marks_continue : (rest cs : List ℕ) → list_all is_xid_continue cs ≡ true → after_marks rest cs
    ≡ rest
marks_continue rest [] h = refl
marks_continue rest (c ∷ cs) h =
    simp (no_mark is_xid_continue mark_ends c (head_passes is_xid_continue c cs h))
    (marks_continue rest cs (tail_passes is_xid_continue c cs h))

marks_identifier : (rest cs : List ℕ) → IsIdentifier cs → after_marks rest cs ≡ rest
marks_identifier rest [] h = absurd h
marks_identifier rest (c ∷ cs) h =
    simp (no_mark is_identifier_start mark_begins_none c h.0) (marks_continue rest cs h.1)

marks_suffix : (rest suffix : List ℕ) → IsSuffix suffix → after_marks rest suffix ≡ rest
marks_suffix rest suffix (inl e) = rw e
marks_suffix rest suffix (inr i) = marks_identifier rest suffix i

marks_found : (rest front : List ℕ) (mark : ℕ) (suffix : List ℕ) → is_mark mark ≡ true →
    IsSuffix suffix → after_marks rest (front ++ mark ∷ suffix) ≡ suffix
marks_found rest [] mark suffix m h = cc (marks_suffix suffix suffix h)
marks_found rest (c ∷ front) mark suffix m h =
    marks_found (cond (is_mark c) (front ++ mark ∷ suffix) rest) front mark suffix m h

pub quoted_have_their_suffix : QuotedHaveTheirSuffix
quoted_have_their_suffix front mark suffix m h other =
    simp other (marks_found [] front mark suffix m h)

-- neither a fraction nor an exponent begins as a suffix
pub no_dot : (c : ℕ) → is_identifier_start c ≡ true → (c == 46) ≡ false
no_dot c h =
    let dot = letter_start 46 (omega arith) (is_ascii_alphabetic 46) refl in
    false_from_ne_true (c == 46) (λ e. let f = eqb-true c 46 e in absurd (cc))

pub suffix_stays : (suffix : List ℕ) → IsNumberSuffix 10 suffix →
    after_exponent (after_fraction suffix) ≡ suffix
suffix_stays [] h = refl
suffix_stays (c ∷ rest) h =
    let dot = no_dot c h.1.0 in
    let exponent : ((c == 101) || (c == 69)) ≡ false = (or_parts _ _ (not-true _ h.0)).1 in
    simp (dot, exponent)

decimal_stays : (radix : ℕ) (b : Bool) (suffix : List ℕ) → (radix == 10) ≡ b →
    IsNumberSuffix radix suffix → cond b (after_exponent (after_fraction suffix)) suffix ≡ suffix
decimal_stays radix true suffix e h = suffix_stays suffix (rw (eqb-true radix 10 e) at h)
decimal_stays radix false suffix e h = refl

integer_suffix : (text : List ℕ) (value : ℕ) (suffix : List ℕ) → IsInteger text value suffix →
    number_suffix text ≡ suffix
integer_suffix text value suffix (start, d) =
    rw (after_skips (base_of text).0 (base_of text).1 d.digits suffix d.skips)
    (decimal_stays (base_of text).0 ((base_of text).0 == 10) suffix refl d.ends)

-- a digit is no minus sign
digit_unsigned : (c : ℕ) → is_digit c 10 ≡ true → (c == 45) ≡ false
digit_unsigned c h = grind (arith, nat_tests)

no_minus : (text : List ℕ) → starts_digit text ≡ true → without_minus text ≡ text
no_minus [] h = refl
no_minus (c ∷ text) h = simp (digit_unsigned c h)

-- the suffix of a literal that begins with a digit is that of a number
pub number_literal : (text : List ℕ) → starts_digit text ≡ true →
    literal_suffix text ≡ number_suffix text
number_literal text h = simp (no_minus text h, h)

-- so is that of one that begins with a minus sign and a digit
pub minus_literal : (text : List ℕ) → starts_digit text ≡ true →
    literal_suffix (minus ∷ text) ≡ number_suffix text
minus_literal text h = simp h

pub integers_have_their_suffix : IntegersHaveTheirSuffix
integers_have_their_suffix text value suffix i =
    let is : number_suffix text ≡ suffix = integer_suffix text value suffix i in
    (number_literal text i.0 ∙ is, minus_literal text i.0 ∙ is)
