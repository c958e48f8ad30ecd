-- A literal ends with its suffix.
use Rattle.std.proofs.Common.{◌≡◌, ◌||◌, ◌++◌, ◌∷◌, [], ap, Bool, List, refl, sym, ℕ}
use Rattle.std.specs.Prelude.{◌==◌, ◌&&◌, cond}
use Rattle.std.proofs.lemmas.List.{append_assoc, append-nil}
use Rattle.tok_lexical.specs.Numbers.{is_digit_or_underscore, starts_digit}
use Rattle.tok_lexical.specs.Pieces.{after_first, begins_with}
use Rattle.tok_values.specs.Integers.{base_of}
use Rattle.tok_values.specs.Suffixes.{after_digits, after_exponent, after_fraction, after_marks}
use Rattle.tok_values.specs.Suffixes.{after_sign, is_mark, literal_suffix, number_suffix}
use Rattle.tok_values.specs.Suffixes.{without_minus}
use Rattle.std.proofs.lemmas.Bool.{cond_both}

-- the text ends with this rest
abbrev pub EndsWith : (rest text : List ℕ) → Type 0
EndsWith rest text = (front : List ℕ) × (text ≡ front ++ rest)

pub either : (text : List ℕ) (b : Bool) (x y : List ℕ) → EndsWith x text → EndsWith y text →
    EndsWith (cond b x y) text
either text b x y h k = cond_both b x y (λ w. EndsWith w text) (λ _. h) (λ _. k)

pub whole : (text : List ℕ) → EndsWith text text
whole text = ([], refl)

pub through : (text rest end : List ℕ) → EndsWith rest text → EndsWith end rest → EndsWith end text
through text rest end (front, p) (more, q) = (front ++ more, cc (append_assoc front more end))

pub past : (c : ℕ) (rest text : List ℕ) → EndsWith rest text → EndsWith rest (c ∷ text)
past c rest text (front, p) = (c ∷ front, ap (λ w. c ∷ w) p)

digits_end : (radix : ℕ) (text : List ℕ) → EndsWith (after_digits radix text) text
digits_end radix [] = whole []
digits_end radix (c ∷ text) =
    either (c ∷ text) (is_digit_or_underscore radix c) _ _
    (past c (after_digits radix text) text (digits_end radix text)) (whole (c ∷ text))

pub first_ends : (text : List ℕ) → EndsWith (after_first text) text
first_ends [] = whole []
first_ends (c ∷ text) = (c ∷ [], refl)

fraction_ends : (text : List ℕ) → EndsWith (after_fraction text) text
fraction_ends text =
    either text (begins_with 46 text) _ _
    (through text (after_first text) (after_digits 10 (after_first text)) (first_ends text)
    (digits_end 10 (after_first text)))
    (whole text)

sign_ends : (text : List ℕ) → EndsWith (after_sign text) text
sign_ends text =
    either text (begins_with 43 text || begins_with 45 text) _ _
    (first_ends text) (whole text)

exponent_ends : (text : List ℕ) → EndsWith (after_exponent text) text
exponent_ends text =
    let signed = after_sign (after_first text) in
    either text (begins_with 101 text || begins_with 69 text) _ _
    (through text signed (after_digits 10 signed)
    (through text (after_first text) signed (first_ends text) (sign_ends (after_first text)))
    (digits_end 10 signed))
    (whole text)

base_ends : (text : List ℕ) → EndsWith (base_of text).1 text
base_ends [] = whole []
base_ends (c ∷ []) = whole (c ∷ [])
base_ends (c ∷ d ∷ rest) =
    let after : EndsWith rest (c ∷ d ∷ rest) = (c ∷ d ∷ [], refl) in
    let P : (ℕ × List ℕ) → Type 0 = λ p. EndsWith p.1 (c ∷ d ∷ rest) in
    cond_both ((c == 48) && (d == 120)) _ _ P (λ _. after)
    (λ _. cond_both ((c == 48) && (d == 111)) _ _ P (λ _. after)
    (λ _. cond_both ((c == 48) && (d == 98)) _ _ P (λ _. after) (λ _. whole (c ∷ d ∷ rest))))

number_ends : (text : List ℕ) → EndsWith (number_suffix text) text
number_ends text =
    let radix = (base_of text).0 in
    let rest = after_digits radix (base_of text).1 in
    let found = through text (base_of text).1 rest (base_ends text)
    (digits_end radix (base_of text).1) in
    either text (radix == 10) _ _
    (through text (after_fraction rest) (after_exponent (after_fraction rest))
    (through text rest (after_fraction rest) found (fraction_ends rest))
    (exponent_ends (after_fraction rest)))
    found

marks_end : (all rest text : List ℕ) → EndsWith rest all → EndsWith text all →
    EndsWith (after_marks rest text) all
marks_end all rest [] r t = r
marks_end all rest (c ∷ text) r t =
    let after = through all (c ∷ text) text t (c ∷ [], refl) in
    marks_end all (cond (is_mark c) text rest) text
    (either all (is_mark c) text rest after r) after

minus_ends : (text : List ℕ) → EndsWith (without_minus text) text
minus_ends [] = whole []
minus_ends (c ∷ rest) =
    either (c ∷ rest) (c == 45) rest (c ∷ rest) (c ∷ [], refl)
    (whole (c ∷ rest))

pub suffix_ends : (text : List ℕ) → (front : List ℕ) × (text ≡ front ++ literal_suffix text)
suffix_ends text =
    let number = without_minus text in
    either text (starts_digit number) _ _
    (through text number (number_suffix number) (minus_ends text) (number_ends number))
    (marks_end text [] text (text, sym (append-nil text)) (whole text))
