-- The suffixes of floats.
use Rattle.std.proofs.Common.{◌≡◌, ◌∙◌, ◌||◌, ◌++◌, ◌∷◌, [], arith, Bool, false, inl, inr, List}
use Rattle.std.proofs.Common.{refl, true, ℕ}
use Rattle.std.specs.List.{list_all}
use Rattle.std.specs.Prelude.{◌==◌}
use Rattle.std.proofs.lemmas.Bool.{false≢true, not-true, or_parts}
use Rattle.std.proofs.lemmas.Bool.Decides.{nat_tests}
use Rattle.tok_lexical.specs.Ascii.{minus}
use Rattle.tok_lexical.specs.Floats.{IsExponent, IsExponentDigits, IsFloatTail}
use Rattle.tok_lexical.specs.Floats.{IsFraction, IsSigned}
use Rattle.tok_lexical.specs.Numbers.{IsDecimal, IsNumberSuffix, IsRun, has_digit}
use Rattle.tok_lexical.specs.Numbers.{is_digit_or_underscore, starts_digit}
use Rattle.tok_lexical.specs.Pieces.{Stops}
use Rattle.tok_lexical.proofs.Digits.{head_passes, tail_passes}
use Rattle.tok_lexical.proofs.FloatTails.{exponent_suffix_stops}
use Rattle.tok_values.specs.Integers.{base_of}
use Rattle.tok_values.specs.Suffixes.{FloatsHaveTheirSuffix, PointedHaveNoSuffix, after_digits}
use Rattle.tok_values.specs.Suffixes.{after_exponent, after_fraction, after_sign, exponent_suffix}
use Rattle.tok_values.specs.Suffixes.{fraction_suffix, literal_suffix, number_suffix}
use Rattle.tok_values.specs.Suffixes.{signed_suffix, tail_suffix}
use Rattle.tok_values.proofs.Endings.{digits_pass, minus_literal, number_literal, suffix_stays}

-- no sign begins digits
no_sign : (c : ℕ) → is_digit_or_underscore 10 c ≡ true → ((c == 43) || (c == 45)) ≡ false
no_sign c h = grind (arith, nat_tests)

sign_stays : (digits suffix : List ℕ) → list_all (is_digit_or_underscore 10) digits ≡ true →
    has_digit 10 digits ≡ true → after_sign (digits ++ suffix) ≡ digits ++ suffix
sign_stays [] suffix all some = absurd (false≢true some)
sign_stays (c ∷ digits) suffix all some =
    simp (no_sign c (head_passes (is_digit_or_underscore 10) c digits all))

run_found : (piece : List ℕ) (run : IsExponentDigits piece) → after_digits 10 piece ≡ run.1
run_found piece (digits, suffix, cut, all, some, ends) =
    rw cut (digits_pass 10 digits suffix all (exponent_suffix_stops suffix ends))

signed_found : (piece : List ℕ) (signed : IsSigned piece) →
    after_digits 10 (after_sign piece) ≡ signed_suffix piece signed
signed_found piece (inl (more, cut, run)) = rw cut (run_found more run)
signed_found piece (inr (inl (more, cut, run))) = rw cut (run_found more run)
signed_found piece (inr (inr (digits, suffix, cut, all, some, ends))) =
    rw (cut, sign_stays digits suffix all some)
    (digits_pass 10 digits suffix all (exponent_suffix_stops suffix ends))

exponent_found : (piece : List ℕ) (exponent : IsExponent piece) →
    after_exponent piece ≡ exponent_suffix piece exponent
exponent_found [] none = absurd none
exponent_found (c ∷ more) (letter, signed) = simp letter (signed_found more signed)

-- an exponent begins with `e` or `E`
letter_stops : (c : ℕ) → ((c == 101) || (c == 69)) ≡ true → is_digit_or_underscore 10 c ≡ false
letter_stops c h = grind (arith, nat_tests)

exponent_stops : (piece : List ℕ) → IsExponent piece → Stops (is_digit_or_underscore 10) piece
exponent_stops [] none = absurd none
exponent_stops (c ∷ more) (letter, signed) = letter_stops c letter

letter_no_dot : (c : ℕ) → ((c == 101) || (c == 69)) ≡ true → (c == 46) ≡ false
letter_no_dot c h = grind (arith, nat_tests)

exponent_no_fraction : (piece : List ℕ) → IsExponent piece → after_fraction piece ≡ piece
exponent_no_fraction [] none = absurd none
exponent_no_fraction (c ∷ more) (letter, signed) = simp (letter_no_dot c letter)

-- a decimal's suffix begins with neither a digit nor an exponent
decimal_ends : (suffix : List ℕ) → IsNumberSuffix 10 suffix →
    Stops (is_digit_or_underscore 10) suffix
decimal_ends [] h = h
decimal_ends (c ∷ rest) h = (or_parts _ _ (not-true _ h.0)).0

no_exponent : (suffix : List ℕ) → IsNumberSuffix 10 suffix → after_exponent suffix ≡ suffix
no_exponent [] h = refl
no_exponent (c ∷ rest) h =
    let none : ((c == 101) || (c == 69)) ≡ false = (or_parts _ _ (not-true _ h.0)).1 in simp none

fraction_found : (piece : List ℕ) (fraction : IsFraction piece) →
    after_exponent (after_digits 10 piece) ≡ fraction_suffix piece fraction
fraction_found piece (inl (digits, tail, cut, all, starts, exponent)) =
    rw (cut, digits_pass 10 digits tail all (exponent_stops tail exponent))
    (exponent_found tail exponent)
fraction_found piece (inr (digits, suffix, cut, all, starts, ends)) =
    rw (cut, digits_pass 10 digits suffix all (decimal_ends suffix ends)) (no_exponent suffix ends)

tail_found : (piece : List ℕ) (tail : IsFloatTail piece) →
    after_exponent (after_fraction piece) ≡ tail_suffix piece tail
tail_found piece (inl (more, cut, fraction)) = rw cut (fraction_found more fraction)
tail_found piece (inr exponent) =
    rw (exponent_no_fraction piece exponent) (exponent_found piece exponent)

tail_stops : (piece : List ℕ) → IsFloatTail piece → Stops (is_digit_or_underscore 10) piece
tail_stops piece (inl (more, cut, fraction)) = rw cut
tail_stops piece (inr exponent) = exponent_stops piece exponent

-- a character that may come second in a float: it names no base
abbrev is_second : ℕ → Bool
is_second c = is_digit_or_underscore 10 c || ((c == 46) || ((c == 101) || (c == 69)))

-- a text that such a character begins
abbrev Begins : List ℕ → Type 0
Begins [] = ⊥
Begins (c ∷ rest) = is_second c ≡ true

letter_second : (c : ℕ) → ((c == 101) || (c == 69)) ≡ true → is_second c ≡ true
letter_second c h = grind (arith, nat_tests)

tail_begins : (piece : List ℕ) → IsFloatTail piece → Begins piece
tail_begins piece (inl (more, cut, fraction)) = rw cut
tail_begins [] (inr exponent) = absurd exponent
tail_begins (c ∷ more) (inr (letter, signed)) = letter_second c letter

no_base : (c d : ℕ) (rest : List ℕ) → is_second d ≡ true → base_of (c ∷ d ∷ rest)
    ≡ (10, c ∷ d ∷ rest)
no_base c d rest h = grind (arith, nat_tests)

decimal_base : (digits tail : List ℕ) → list_all (is_digit_or_underscore 10) digits ≡ true →
    starts_digit digits ≡ true → Begins tail → base_of (digits ++ tail) ≡ (10, digits ++ tail)
decimal_base [] tail all starts begins = absurd (false≢true starts)
decimal_base (c ∷ []) [] all starts begins = refl
decimal_base (c ∷ []) (d ∷ tail) all starts begins = no_base c d tail begins
decimal_base (c ∷ d ∷ digits) tail all starts begins =
    let pass = head_passes (is_digit_or_underscore 10) d digits
    (tail_passes (is_digit_or_underscore 10) c (d ∷ digits) all) in
    no_base c d (digits ++ tail) (cc)

pub starts_on : (digits tail : List ℕ) → starts_digit digits ≡ true →
    starts_digit (digits ++ tail) ≡ true
starts_on [] tail starts = absurd (false≢true starts)
starts_on (c ∷ digits) tail starts = starts

-- a run of digits begins with one
pub run_starts : {Tail : List ℕ → Type 0} {text : List ℕ} → IsRun 10 starts_digit Tail text →
    starts_digit text ≡ true
run_starts (digits, tail, cut, all, starts, rest) = rw cut (starts_on digits tail starts)

-- the suffix of decimal digits is that of the text after them
after_all : (digits tail : List ℕ) → list_all (is_digit_or_underscore 10) digits ≡ true →
    starts_digit digits ≡ true → Begins tail → Stops (is_digit_or_underscore 10) tail →
    number_suffix (digits ++ tail) ≡ after_exponent (after_fraction tail)
after_all digits tail all starts begins stops =
    rw (decimal_base digits tail all starts begins, digits_pass 10 digits tail all stops)

-- a number has its suffix as a literal, and so it has after a minus sign
both_have : (text suffix : List ℕ) → starts_digit text ≡ true → number_suffix text ≡ suffix →
    (literal_suffix text ≡ suffix) × (literal_suffix (minus ∷ text) ≡ suffix)
both_have text suffix h is = (number_literal text h ∙ is, minus_literal text h ∙ is)

pub floats_have_their_suffix : FloatsHaveTheirSuffix
floats_have_their_suffix text (digits, tail, cut, all, starts, rest) =
    both_have text _ (rw cut (starts_on digits tail starts))
    (rw (cut, after_all digits tail all starts (tail_begins tail rest) (tail_stops tail rest))
    (tail_found tail rest))

pub pointed_have_no_suffix : PointedHaveNoSuffix
pointed_have_no_suffix text (digits, tail, cut, all, starts, dot) =
    both_have text _ (rw cut (starts_on digits tail starts))
    (rw (cut, after_all digits tail all starts (rw dot refl) (rw dot refl), dot))

-- a text that names no base is read whole
two_whole : (c d : ℕ) (rest : List ℕ) → (base_of (c ∷ d ∷ rest)).0 ≡ 10 →
    base_of (c ∷ d ∷ rest) ≡ (10, c ∷ d ∷ rest)
two_whole c d rest ten = grind (arith, nat_tests)

base_whole : (text : List ℕ) → (base_of text).0 ≡ 10 → base_of text ≡ (10, text)
base_whole [] ten = refl
base_whole (c ∷ []) ten = refl
base_whole (c ∷ d ∷ rest) ten = two_whole c d rest ten

-- decimal digits that name no base have the suffix after them
pub decimals_have_their_suffix : (text : List ℕ) (decimal : IsDecimal text) →
    (base_of text).0 ≡ 10 → literal_suffix text ≡ decimal.1
decimals_have_their_suffix text (digits, tail, cut, all, starts, rest) ten =
    let starts_text : starts_digit text ≡ true = rw cut (starts_on digits tail starts) in
    rw (number_literal text starts_text, base_whole text ten)
    (rw (cut, digits_pass 10 digits tail all (decimal_ends tail rest)) (suffix_stays tail rest))
