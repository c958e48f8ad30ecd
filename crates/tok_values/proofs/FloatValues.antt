-- A decimal number without a suffix, or with the name of a type of floats, has a value, and one
-- with another suffix has none.
use Rattle.std.proofs.Common.{◌≡◌, ◌∙◌, ℕ, zero, suc, ◌-◌, ◌<◌, ◌≤◌, List, [], ◌∷◌, ◌++◌, Option}
use Rattle.std.proofs.Common.{None, Some, Bool, true, false, refl, sym, ap, arith, inl, inr}
use Rattle.std.proofs.Common.{append_assoc, cond, drop, length, length-append}
use Rattle.std.specs.Prelude.{◌==◌, ◌||◌, ◌&&◌, ◌⊎◌, bytes_eq, codes, is_some, nat_le, nat_lt, fold}
use Rattle.std.specs.Char.{is_ascii_digit, is_digit, to_ascii_lowercase}
use Rattle.std.specs.Float.{Float, binary64}
use Rattle.std.specs.Float.Parse.{completes_number, float_scan_step, is_float_text, parse_float}
use Rattle.std.specs.Float.Parse.{is_infinity_text, is_nan_text, without_sign}
use Rattle.std.specs.List.{list_all}
use Rattle.std.specs.Str.{IsAscii, IsUtf8, chars}
use Rattle.std.specs.Cmp.Lexicographic.{same_text}
use Rattle.std.proofs.lemmas.Bool.{and_parts}
use Rattle.std.proofs.lemmas.Bool.{and_right, cond_both, not-true, eqb-true, false_from_ne_true, false≢true, or_from, or_parts}
use Rattle.std.proofs.lemmas.Bool.Decides.{nat_tests}
use Rattle.std.proofs.lemmas.Float.Parse.{is_some-parse_float}
use Rattle.std.proofs.lemmas.List.{append-nil}
use Rattle.std.proofs.lemmas.List.Elements.{filter-append}
use Rattle.std.proofs.lemmas.List.Folds.{list_all-append}
use Rattle.std.proofs.lemmas.List.Sums.{fold-append}
use Rattle.std.proofs.lemmas.Str.{IsAscii-append, encodes-IsAscii, encodes-chars}
use Rattle.std.proofs.lemmas.Str.Ascii.{IsAscii-cons, IsAscii-nil}
use Rattle.std.proofs.Math.Seq.{drop-append_seam, take-append_seam}
use Rattle.tok_lexical.specs.Floats.{IsExponent, IsExponentDigits, IsExponentSuffix, IsFloat}
use Rattle.tok_lexical.specs.Floats.{IsFloatTail, IsFraction, IsPointed, IsSigned}
use Rattle.tok_lexical.specs.Numbers.{IsDecimal, IsNumberSuffix, has_digit}
use Rattle.tok_lexical.specs.Numbers.{is_digit_or_underscore, starts_digit, starts_number_suffix}
use Rattle.tok_values.specs.Floats.{begins_decimal, float_value, is_no_underscore, without_type}
use Rattle.tok_values.specs.Floats.{IsFloatSuffix, without_underscores}
use Rattle.tok_values.specs.Integers.{base_of}
use Rattle.tok_values.specs.Laws.{DecimalsHaveTheirValue, FloatsHaveTheirValue}
use Rattle.tok_values.specs.Suffixes.{exponent_suffix, float_suffix, fraction_suffix}
use Rattle.tok_values.specs.Suffixes.{literal_suffix, signed_suffix, tail_suffix}
use Rattle.tok_values.proofs.Endings.{no_dot}
use Rattle.tok_values.proofs.FloatEndings.{decimals_have_their_suffix, floats_have_their_suffix}
use Rattle.tok_values.proofs.FloatEndings.{pointed_have_no_suffix, run_starts}
use Rattle.tok_values.proofs.Zeros.{or_end}
use Rattle.tok_values.proofs.Passing.{all_ascii, all_pass}

-- a character that a float has before its suffix
abbrev pub is_part : ℕ → Bool
is_part c =
    is_digit_or_underscore 10 c
    || ((c == 46) || ((c == 101) || ((c == 69) || ((c == 43) || (c == 45)))))

part_low : (c : ℕ) → is_part c ≡ true → c < 128
part_low c p = grind (arith, nat_tests)

pub decimal : (b : ℕ) → (nat_le 48 b && nat_le b 57) ≡ true → is_digit b 10 ≡ true
decimal b h = grind (arith, nat_tests)

decimal_digit : (c : ℕ) → is_digit c 10 ≡ true → (nat_le 48 c && nat_le c 57) ≡ true
decimal_digit c h = grind (arith, nat_tests)

digit_seen : (c : ℕ) → is_digit c 10 ≡ true → is_no_underscore c ≡ true
digit_seen c h = grind (arith, nat_tests)

digit_unsigned : (c : ℕ) → is_digit c 10 ≡ true → ((c == 43) || (c == 45)) ≡ false
digit_unsigned c h = grind (arith, nat_tests)

-- the state of a reader after this text, underscores aside
abbrev pub after : ℕ → List ℕ → ℕ
after s text = fold float_scan_step s (without_underscores text)

-- the state at which a number may end
abbrev pub ends : ℕ → Bool
ends s = ((s == 1) || (s == 3)) || (s == 6)

completes : (s : ℕ) (text : List ℕ) → completes_number s text ≡ ends (fold float_scan_step s text)
completes s [] = refl
completes s (c ∷ text) = completes (float_scan_step s c) text

pub after_append : (s : ℕ) (xs ys : List ℕ) → after s (xs ++ ys) ≡ after (after s xs) ys
after_append s xs ys = simp (filter-append, fold-append)

lost_step : (c : ℕ) → float_scan_step 7 c ≡ 7
lost_step c = grind (arith, nat_tests)

-- what is no number stays none
pub lost : (cs : List ℕ) → completes_number 7 cs ≡ false
lost [] = refl
lost (c ∷ cs) = rw (lost_step c) (lost cs)

-- a byte after which there is no number
abbrev pub Halts : (s b : ℕ) → Type 0
Halts s b = (is_no_underscore b ≡ true) × (float_scan_step s b ≡ 7)

pub halted : (s b : ℕ) (more : List ℕ) → Halts s b → ends (after s (b ∷ more)) ≡ false
halted s b more h = cc (completes 7 (without_underscores more), lost (without_underscores more))

-- a byte that goes on with no digits
no_digit : (c : ℕ) → is_digit_or_underscore 10 c ≡ false →
    (is_no_underscore c ≡ true) × (is_ascii_digit c ≡ false)
no_digit c h = grind (arith, nat_tests)

-- a byte that no float has
other_halts : (s b : ℕ) → is_part b ≡ false → Halts s b
other_halts s b h =
    let digit = or_parts (is_digit_or_underscore 10 b) _ h in
    let dot = or_parts (b == 46) _ digit.1 in
    let lower = or_parts (b == 101) _ dot.1 in
    let upper = or_parts (b == 69) _ lower.1 in
    let none = no_digit b digit.0 in (none.0, cc)

pub high_halts : (s b : ℕ) → 128 ≤ b → Halts s b
high_halts s b h = other_halts s b (grind (arith, part_low))

-- a suffix, if there is one, is no more of the number
abbrev pub Stays : (s : ℕ) → List ℕ → Type 0
Stays s [] = Unit {0}
Stays s (c ∷ rest) = Halts s c

-- the state after a digit
abbrev digit_state : ℕ → ℕ
digit_state s = cond (nat_lt s 2) 1 (cond (nat_lt s 4) 3 (cond (nat_lt s 7) 6 7))

digit_step : (s c : ℕ) → is_digit c 10 ≡ true → float_scan_step s c ≡ digit_state s
digit_step s c h = grind (arith, nat_tests)

one_more : (s c : ℕ) (rest : List ℕ) (b : Bool) → is_digit c 10 ≡ b →
    (b || (c == 95)) ≡ true → after s (c ∷ rest) ≡ after (cond b (digit_state s) s) rest
one_more s c rest true e h = cc (digit_seen c e, digit_step s c e)
one_more s c rest false e h = cc (eqb-true c 95 h)

-- digits and underscores stay at a state that digits lead to
stays : (s : ℕ) → digit_state s ≡ s → (xs : List ℕ) → list_all (is_digit_or_underscore 10) xs ≡ true
    → after s xs ≡ s
stays s same [] h = refl
stays s same (c ∷ xs) h =
    let both = and_parts (is_digit_or_underscore 10 c) _ h in
    let rest = stays s same xs both.1 in
    one_more s c xs (is_digit c 10) refl both.0
    ∙ cond_both (is_digit c 10) (digit_state s) s (λ t. after t xs ≡ s) (λ _. cc) (λ _. rest)

-- with a digit among them they lead there
goes : (s t : ℕ) → digit_state s ≡ t → digit_state t ≡ t → (xs : List ℕ) →
    list_all (is_digit_or_underscore 10) xs ≡ true → has_digit 10 xs ≡ true → after s xs ≡ t
goes s t to same [] h some = absurd (false≢true some)
goes s t to same (c ∷ xs) h some =
    let both = and_parts (is_digit_or_underscore 10 c) _ h in
    let rest = stays t same xs both.1 in
    one_more s c xs (is_digit c 10) refl both.0
    ∙ cond_both (is_digit c 10) (digit_state s) s (λ u. after u xs ≡ t) (λ _. cc)
    (λ e. goes s t to same xs both.1 (cc))

-- a text up to its suffix leads from a state to an end
pub record Reads (s : ℕ) (text suffix : List ℕ) : Type 0 where
  pub front : List ℕ
  pub cut : text ≡ front ++ suffix
  pub parts : list_all is_part front ≡ true
  pub reads : ends (after s front) ≡ true
  pub stays : Stays (after s front) suffix

joined : (s t : ℕ) (front rest text suffix : List ℕ) → text ≡ front ++ rest →
    list_all is_part front ≡ true → after s front ≡ t → Reads t rest suffix → Reads s text suffix
joined s t front rest text suffix cut parts to r = record {
  front = front ++ r.front;
  cut = cc (append_assoc front r.front suffix);
  parts = cc (list_all-append is_part front r.front);
  reads = cc (after_append s front r.front);
  stays = rw (after_append s front r.front, to) r.stays;
}

digit_part : (c : ℕ) → is_digit_or_underscore 10 c ≡ true → is_part c ≡ true
digit_part c h = cc

digit_parts : (xs : List ℕ) → list_all (is_digit_or_underscore 10) xs ≡ true →
    list_all is_part xs ≡ true
digit_parts = all_pass (is_digit_or_underscore 10) is_part digit_part

ended : (s t : ℕ) (text digits suffix : List ℕ) → text ≡ digits ++ suffix →
    list_all (is_digit_or_underscore 10) digits ≡ true → after s digits ≡ t → ends t ≡ true →
    Stays t suffix → Reads s text suffix
ended s t text digits suffix cut all to end stop = record {
  front = digits;
  cut = cut;
  parts = digit_parts digits all;
  reads = cc;
  stays = rw to stop;
}

-- what may follow an exponent does not go on with it
six_halts : (c : ℕ) → is_digit_or_underscore 10 c ≡ false → Halts 6 c
six_halts c h = grind (arith, no_digit)

exponent_stays : (suffix : List ℕ) → IsExponentSuffix suffix → Stays 6 suffix
exponent_stays [] h = tt
exponent_stays (c ∷ rest) h = six_halts c h.0

-- what may follow digits does not go on with them
suffix_halts : (s c : ℕ) → (s ≡ 1) ⊎ (s ≡ 3) → starts_number_suffix 10 c ≡ true →
    (c == 46) ≡ false → Halts s c
suffix_halts s c from h dot =
    let four : (s == 4) ≡ false = grind (arith, nat_tests) in
    let sign = and_right ((c == 43) || (c == 45)) (s == 4) four in
    let begun = or_parts (is_digit_or_underscore 10 c) _ (not-true _ h) in
    let none = no_digit c begun.0 in (none.0, cc)

number_stays : (s : ℕ) → (s ≡ 1) ⊎ (s ≡ 3) → (suffix : List ℕ) → IsNumberSuffix 10 suffix →
    Stays s suffix
number_stays s from [] h = tt
number_stays s from (c ∷ rest) h = suffix_halts s c from h.0 (no_dot c h.1.0)

exponent_digits : (s : ℕ) → digit_state s ≡ 6 → (piece : List ℕ) (run : IsExponentDigits piece) →
    Reads s piece run.1
exponent_digits s to piece (digits, tail, cut, all, some, rest) =
    ended s 6 piece digits tail cut all (goes s 6 to refl digits all some) refl
    (exponent_stays tail rest)

signed_reads : (piece : List ℕ) (signed : IsSigned piece) →
    Reads 4 piece (signed_suffix piece signed)
signed_reads piece (inl (more, cut, run)) =
    joined 4 5 (43 ∷ []) more piece _ cut refl refl (exponent_digits 5 refl more run)
signed_reads piece (inr (inl (more, cut, run))) =
    joined 4 5 (45 ∷ []) more piece _ cut refl refl (exponent_digits 5 refl more run)
signed_reads piece (inr (inr run)) = exponent_digits 4 refl piece run

letter_step : (s c : ℕ) → (s ≡ 1) ⊎ (s ≡ 3) → ((c == 101) || (c == 69)) ≡ true →
    (after s (c ∷ []) ≡ 4) × (list_all is_part (c ∷ []) ≡ true)
letter_step s c from h = grind (arith, nat_tests)

exponent_reads : (s : ℕ) → (s ≡ 1) ⊎ (s ≡ 3) → (piece : List ℕ) (exponent : IsExponent piece) →
    Reads s piece (exponent_suffix piece exponent)
exponent_reads s from [] none = absurd none
exponent_reads s from (c ∷ more) (letter, signed) =
    let step = letter_step s c from letter in
    joined s 4 (c ∷ []) more (c ∷ more) _ refl step.1 step.0 (signed_reads more signed)

fraction_reads : (piece : List ℕ) (fraction : IsFraction piece) →
    Reads 3 piece (fraction_suffix piece fraction)
fraction_reads piece (inl (digits, tail, cut, all, starts, exponent)) =
    joined 3 3 digits tail piece _ cut (digit_parts digits all) (stays 3 refl digits all)
    (exponent_reads 3 (inr refl) tail exponent)
fraction_reads piece (inr (digits, tail, cut, all, starts, rest)) =
    ended 3 3 piece digits tail cut all (stays 3 refl digits all) refl
    (number_stays 3 (inr refl) tail rest)

tail_reads : (piece : List ℕ) (tail : IsFloatTail piece) → Reads 1 piece (tail_suffix piece tail)
tail_reads piece (inl (more, cut, fraction)) =
    joined 1 3 (46 ∷ []) more piece _ cut refl refl (fraction_reads more fraction)
tail_reads piece (inr exponent) = exponent_reads 1 (inl refl) piece exponent

starts_some : (xs : List ℕ) → starts_digit xs ≡ true → has_digit 10 xs ≡ true
starts_some [] h = absurd (false≢true h)
starts_some (c ∷ xs) h = ap (λ b. b || has_digit 10 xs) h

float_reads : (text : List ℕ) (float : IsFloat text) → Reads 0 text (float_suffix text float)
float_reads text (digits, tail, cut, all, starts, rest) =
    joined 0 1 digits tail text _ cut (digit_parts digits all)
    (goes 0 1 refl refl digits all (starts_some digits starts)) (tail_reads tail rest)

-- so do digits and a dot, and decimal digits
pointed_reads : (text : List ℕ) → IsPointed text → Reads 0 text []
pointed_reads text (digits, tail, cut, all, starts, dot) =
    joined 0 1 digits tail text [] cut (digit_parts digits all)
    (goes 0 1 refl refl digits all (starts_some digits starts))
    (record {
      front = 46 ∷ [];
      cut = dot ∙ sym (append-nil (46 ∷ []));
      parts = refl;
      reads = refl;
      stays = tt;
    })

decimal_reads : (text : List ℕ) (decimal : IsDecimal text) → Reads 0 text decimal.1
decimal_reads text (digits, tail, cut, all, starts, rest) =
    ended 0 1 text digits tail cut all (goes 0 1 refl refl digits all (starts_some digits starts))
    refl (number_stays 1 (inl refl) tail rest)

-- a decimal number: a float, digits and a dot, or a decimal integer
abbrev pub IsDecimalNumber : List ℕ → Type 0
IsDecimalNumber text = IsFloat text ⊎ (IsPointed text ⊎ IsDecimal text)

pub number_reads : (text : List ℕ) → (base_of text).0 ≡ 10 → IsDecimalNumber text →
    Reads 0 text (literal_suffix text)
number_reads text ten (inl float) =
    rw (floats_have_their_suffix text float).0 (float_reads text float)
number_reads text ten (inr (inl pointed)) =
    rw (pointed_have_no_suffix text pointed).0 (pointed_reads text pointed)
number_reads text ten (inr (inr decimal)) =
    rw (decimals_have_their_suffix text decimal ten) (decimal_reads text decimal)

-- the name of a type holds an `f`, which no part of a float before its suffix has
no_name : (xs name : List ℕ) → list_all is_part xs ≡ true → list_all is_part name ≡ false →
    bytes_eq xs name ≡ false
no_name xs name h other =
    false_from_ne_true (bytes_eq xs name) (λ e. let same = same_text xs name (sym e) in absurd (cc))

no_type : (xs : List ℕ) → list_all is_part xs ≡ true →
    (bytes_eq xs (codes "f32") || bytes_eq xs (codes "f64")) ≡ false
no_type xs h = or_from _ _ (no_name xs (codes "f32") h refl) (no_name xs (codes "f64") h refl)

drop_parts : (n : ℕ) (xs : List ℕ) → list_all is_part xs ≡ true →
    list_all is_part (drop n xs) ≡ true
drop_parts zero xs h = h
drop_parts (suc n) [] h = refl
drop_parts (suc n) (x ∷ xs) h = drop_parts n xs (and_parts (is_part x) _ h).1

plain_type : (front : List ℕ) → list_all is_part front ≡ true → without_type front ≡ front
plain_type front h =
    let none = no_type (drop (length front - 3) front) (drop_parts (length front - 3) front h) in cc

-- a name of a type at the end
cut_type : (front name : List ℕ) → length name ≡ 3 →
    (bytes_eq name (codes "f32") || bytes_eq name (codes "f64")) ≡ true →
    without_type (front ++ name) ≡ front
cut_type front name three is =
    let at : length (front ++ name) - 3 ≡ length front =
    omega (arith, length-append front name, three) in
    simp (at, drop-append_seam, is, take-append_seam)

type_cut : (front suffix : List ℕ) → list_all is_part front ≡ true → IsFloatSuffix suffix →
    without_type (front ++ suffix) ≡ front
type_cut front suffix h (inl e) = rw (e, append-nil) (plain_type front h)
type_cut front suffix h (inr (inl e)) = rw e (cut_type front (codes "f32") refl refl)
type_cut front suffix h (inr (inr e)) = rw e (cut_type front (codes "f64") refl refl)

-- all of it is ASCII
pub parts_ascii : (xs : List ℕ) → list_all is_part xs ≡ true → IsAscii xs
parts_ascii = all_ascii is_part part_low

low_ascii : (a b c : ℕ) → a < 128 → b < 128 → c < 128 → IsAscii (a ∷ b ∷ c ∷ [])
low_ascii a b c p q r =
    IsAscii-cons a (b ∷ c ∷ []) p (IsAscii-cons b (c ∷ []) q (IsAscii-cons c [] r IsAscii-nil))

pub float_type_ascii : (suffix : List ℕ) → IsFloatSuffix suffix → IsAscii suffix
float_type_ascii suffix (inl e) = rw e IsAscii-nil
float_type_ascii suffix (inr (inl e)) =
    rw e (low_ascii 102 51 50 (omega arith) (omega arith) (omega arith))
float_type_ascii suffix (inr (inr e)) =
    rw e (low_ascii 102 54 52 (omega arith) (omega arith) (omega arith))

-- a text that begins with a digit and leads to an end is read
some_value : (o : Option Float) → is_some o ≡ true → (value : Float) × (o ≡ Some value)
some_value None h = absurd (false≢true h)
some_value (Some value) h = (value, refl)

-- a digit begins neither `inf` nor `nan`
digit_no_word : (c : ℕ) → is_digit c 10 ≡ true →
    ((to_ascii_lowercase c == 105) || (to_ascii_lowercase c == 110)) ≡ false
digit_no_word c h = grind (arith, nat_tests)

no_word : (c : ℕ) (more : List ℕ) → is_digit c 10 ≡ true →
    (is_infinity_text (c ∷ more) || is_nan_text (c ∷ more)) ≡ false
no_word c more h = let none = or_parts (to_ascii_lowercase c == 105) _ (digit_no_word c h) in cc

pub number_text : (xs : List ℕ) → starts_digit xs ≡ true →
    is_float_text (without_underscores xs) ≡ ends (after 0 xs)
number_text [] h = absurd (false≢true h)
number_text (c ∷ xs) h =
    let text = without_underscores xs in
    let seen : without_underscores (c ∷ xs) ≡ c ∷ text = cc (digit_seen c h) in
    let unsigned : without_sign (c ∷ text) ≡ c ∷ text = cc (digit_unsigned c h) in
    rw (seen, unsigned, no_word c text h, or_end) (completes 0 (c ∷ text))

pub begins : (xs : List ℕ) → starts_digit xs ≡ true → begins_decimal xs ≡ true
begins [] h = absurd (false≢true h)
begins (c ∷ xs) h = decimal_digit c h

pub front_starts : (front suffix : List ℕ) → ends (after 0 front) ≡ true →
    starts_digit (front ++ suffix) ≡ true → starts_digit front ≡ true
front_starts [] suffix e h = absurd (false≢true e)
front_starts (c ∷ front) suffix e h = h

pub number_starts : (text : List ℕ) → IsDecimalNumber text → starts_digit text ≡ true
number_starts text (inl float) = run_starts float
number_starts text (inr (inl pointed)) = run_starts pointed
number_starts text (inr (inr decimal)) = run_starts decimal

-- the value of a number with this suffix is what the digits before it write
abbrev HasItsValue : (bytes suffix : List ℕ) → Type 0
HasItsValue bytes suffix =
    (digits : List ℕ) × (value : Float) × (bytes ≡ digits ++ suffix)
    × (parse_float binary64 (without_underscores digits) ≡ Some value)
    × (float_value bytes ≡ Some value)

read_value : (bytes suffix : List ℕ) → IsUtf8 bytes → starts_digit (chars bytes) ≡ true →
    Reads 0 (chars bytes) suffix → IsFloatSuffix suffix → HasItsValue bytes suffix
read_value bytes suffix u begin r named =
    let ascii : IsAscii (chars bytes) =
    rw r.cut (IsAscii-append r.front suffix (parts_ascii r.front r.parts)
    (float_type_ascii suffix named)) in
    let whole : bytes ≡ r.front ++ suffix =
    sym (encodes-chars bytes u) ∙ encodes-IsAscii (chars bytes) ascii ∙ r.cut in
    let starts = rw r.cut at begin in
    let (value, is) = some_value (parse_float binary64 (without_underscores r.front))
    (rw (is_some-parse_float, number_text r.front (front_starts r.front suffix r.reads starts))
    r.reads) in (
      r.front,
      value,
      whole,
      is,
      rw (whole, begins (r.front ++ suffix) starts, type_cut r.front suffix r.parts named) is,
    )

pub floats_have_their_value : FloatsHaveTheirValue
floats_have_their_value bytes u float named =
    read_value bytes (float_suffix (chars bytes) float) u
    (number_starts (chars bytes) (inl float)) (float_reads (chars bytes) float) named

pub decimals_have_their_value : DecimalsHaveTheirValue
decimals_have_their_value bytes u decimal ten named =
    read_value bytes (literal_suffix (chars bytes)) u (number_starts (chars bytes) (inr decimal))
    (number_reads (chars bytes) ten (inr decimal)) named

pub float_has_value : (bytes : List ℕ) → IsUtf8 bytes → (base_of (chars bytes)).0 ≡ 10 →
    IsDecimalNumber (chars bytes) → IsFloatSuffix (literal_suffix (chars bytes)) →
    (value : Float) × (float_value bytes ≡ Some value)
float_has_value bytes u ten number named =
    let (digits, value, cut, read, has) =
    read_value bytes (literal_suffix (chars bytes)) u (number_starts (chars bytes) number)
    (number_reads (chars bytes) ten number) named in (value, has)
