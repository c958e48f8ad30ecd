-- The suffixes of literals (Rust Reference: Tokens, Suffixes; Integer literals; Floating-point
-- literals).
use Rattle.std.proofs.Common.{inl, inr}
use Rattle.std.specs.Prelude.{◌≡◌, ℕ, ◌==◌, ◌||◌, List, [], ◌∷◌, ◌++◌, Bool, true, false, if◌then◌else◌}
use Rattle.tok_lexical.specs.Ascii.{apostrophe, dot, lower_e, minus, number_sign, plus, quote}
use Rattle.tok_lexical.specs.Ascii.{upper_e}
use Rattle.tok_lexical.specs.Floats.{IsExponent, IsFloat, IsFloatTail, IsFraction, IsPointed}
use Rattle.tok_lexical.specs.Floats.{IsSigned}
use Rattle.tok_lexical.specs.Numbers.{is_digit_or_underscore, starts_digit}
use Rattle.tok_lexical.specs.Pieces.{after_first, begins_with}
use Rattle.tok_lexical.specs.Words.{IsSuffix}
use Rattle.tok_values.specs.Integers.{IsInteger, base_of}

-- what a string or a character ends with, before its suffix
abbrev pub is_mark : ℕ → Bool
is_mark c = (c == quote) || ((c == apostrophe) || (c == number_sign))

-- the text after the last mark, or this rest if there is none
abbrev pub after_marks : (rest text : List ℕ) → List ℕ
after_marks rest [] = rest
after_marks rest (c ∷ text) = after_marks (if is_mark c then text else rest) text

-- the text after the digits and underscores at its front
abbrev pub after_digits : (radix : ℕ) → List ℕ → List ℕ
after_digits radix [] = []
after_digits radix (c ∷ text) =
    if is_digit_or_underscore radix c then after_digits radix text else c ∷ text

-- the text after a dot and digits, if they are at its front
abbrev pub after_fraction : List ℕ → List ℕ
after_fraction text =
    if begins_with dot text then after_digits 10 (after_first text) else text

-- the text after `+` or `-`, if one is at its front
abbrev pub after_sign : List ℕ → List ℕ
after_sign text = if begins_with plus text || begins_with minus text then after_first text else text

-- the text after `e` or `E`, a sign or none, and digits, if they are at its front
abbrev pub after_exponent : List ℕ → List ℕ
after_exponent text =
    if begins_with lower_e text || begins_with upper_e text
    then after_digits 10 (after_sign (after_first text))
    else text

-- the text after the digits of a number, and after a fraction and an exponent if it is decimal
abbrev pub number_suffix : List ℕ → List ℕ
number_suffix text =
    let suffix = after_digits (base_of text).0 (base_of text).1 in
    if (base_of text).0 == 10 then after_exponent (after_fraction suffix) else suffix

-- the text without a `-` at its front, which a compiler's own number may have
abbrev pub without_minus : List ℕ → List ℕ
without_minus text = if begins_with minus text then after_first text else text

-- the suffix of a literal with this text, which is empty if it has none
abbrev pub literal_suffix : List ℕ → List ℕ
literal_suffix text =
    let number = without_minus text in
    if starts_digit number then number_suffix number else after_marks [] text

-- a suffix after a quote, an apostrophe or a number sign is that of the whole literal
abbrev pub QuotedHaveTheirSuffix : Type 0
QuotedHaveTheirSuffix =
    (front : List ℕ) (mark : ℕ) (suffix : List ℕ) → is_mark mark ≡ true → IsSuffix suffix →
    starts_digit (without_minus (front ++ mark ∷ suffix)) ≡ false →
    literal_suffix (front ++ mark ∷ suffix) ≡ suffix

-- the suffix of an integer literal is the one that its grammar names, also after a minus sign
abbrev pub IntegersHaveTheirSuffix : Type 0
IntegersHaveTheirSuffix =
    (text : List ℕ) (value : ℕ) (suffix : List ℕ) → IsInteger text value suffix →
    (literal_suffix text ≡ suffix) × (literal_suffix (minus ∷ text) ≡ suffix)

-- the suffix that the grammar finds after the digits of an exponent, the tail of their run
abbrev pub signed_suffix : (piece : List ℕ) → IsSigned piece → List ℕ
signed_suffix piece (inl (more, cut, run)) = run.1
signed_suffix piece (inr (inl (more, cut, run))) = run.1
signed_suffix piece (inr (inr run)) = run.1

-- the suffix that the grammar finds after an exponent
abbrev pub exponent_suffix : (piece : List ℕ) → IsExponent piece → List ℕ
exponent_suffix [] none = []
exponent_suffix (c ∷ more) (letter, signed) = signed_suffix more signed

-- the suffix that the grammar finds after a fraction, which may have an exponent
abbrev pub fraction_suffix : (piece : List ℕ) → IsFraction piece → List ℕ
fraction_suffix piece (inl (digits, tail, cut, all, starts, exponent)) =
    exponent_suffix tail exponent
fraction_suffix piece (inr run) = run.1

-- the suffix that the grammar finds in the part of a float after its first digits
abbrev pub tail_suffix : (piece : List ℕ) → IsFloatTail piece → List ℕ
tail_suffix piece (inl (more, cut, fraction)) = fraction_suffix more fraction
tail_suffix piece (inr exponent) = exponent_suffix piece exponent

-- the suffix that the grammar finds in a float
abbrev pub float_suffix : (text : List ℕ) → IsFloat text → List ℕ
float_suffix text (digits, tail, cut, all, starts, float) = tail_suffix tail float

-- the suffix of a float is the one that its grammar finds, also after a minus sign
abbrev pub FloatsHaveTheirSuffix : Type 0
FloatsHaveTheirSuffix =
    (text : List ℕ) (float : IsFloat text) → (literal_suffix text ≡ float_suffix text float)
    × (literal_suffix (minus ∷ text) ≡ float_suffix text float)

-- digits and a dot have no suffix, also after a minus sign
abbrev pub PointedHaveNoSuffix : Type 0
PointedHaveNoSuffix =
    (text : List ℕ) → IsPointed text → (literal_suffix text ≡ [])
    × (literal_suffix (minus ∷ text) ≡ [])
