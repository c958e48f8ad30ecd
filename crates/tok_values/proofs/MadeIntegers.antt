-- The text of a made integer literal is read as one, and its value is the number.
use Rattle.std.proofs.Common.{◌≡◌, ◌∙◌, ℕ, ◌+◌, ◌*◌, ◌-◌, ◌^◌, ◌<◌, ◌≤◌, List, [], ◌∷◌, ◌++◌, None}
use Rattle.std.proofs.Common.{Bool, true, false, refl, sym, ap, arith, inl, inr, get_or, length}
use Rattle.std.specs.Prelude.{◌==◌, ◌&&◌, fold, map, nat_lt}
use Rattle.std.specs.Char.{digit_value, is_ascii_alphabetic, is_ascii_alphanumeric, is_digit}
use Rattle.std.specs.Fmt.{decimal}
use Rattle.std.specs.List.{list_all, range_with_len}
use Rattle.std.specs.Str.{IsAscii, chars}
use Rattle.std.specs.Str.Parse.{AllDigits, digits_value, digits_value_after}
use Rattle.unicode_ident.specs.Ident.{is_xid_continue}
use Rattle.unicode_ident.proofs.IdentLemmas.{is_xid_continue-ascii}
use Rattle.std.proofs.lemmas.Bool.{and_from, and_parts, and_right, eqb-false, eqb-true, false≢true, lt-ltb, ltb-true, or_left}
use Rattle.std.proofs.lemmas.Bool.Decides.{nat_tests}
use Rattle.std.proofs.lemmas.Fmt.{decimal_is_IsNumeral_wide}
use Rattle.std.proofs.lemmas.List.{append-nil}
use Rattle.std.proofs.lemmas.List.FromFn.{get_or-map-range_with_len}
use Rattle.std.proofs.lemmas.Str.{IsAscii-append, chars-IsAscii}
use Rattle.std.proofs.lemmas.Str.Ascii.{IsAscii-cons, IsAscii-nil}
use Rattle.tok_lexical.specs.Errors.{error_kind}
use Rattle.tok_lexical.specs.Fits.{IsFirstFit, here}
use Rattle.tok_lexical.specs.Floats.{IsFloatTail}
use Rattle.tok_lexical.specs.Numbers.{IsNumberSuffix, is_bare, is_digit_or_underscore}
use Rattle.tok_lexical.specs.Numbers.{is_exponent, starts_number_suffix}
use Rattle.tok_lexical.specs.Pieces.{HasPrefix, Skips, Stops, begins_with}
use Rattle.tok_lexical.specs.Private.Starts.{names_base, start_of}
use Rattle.tok_lexical.specs.Rules.{Spells, among, decimal_rules, rules_of}
use Rattle.tok_lexical.specs.declared.rule.Mode.{Mode}
use Rattle.tok_lexical.specs.declared.rule.Mode.TheVariants.{Plain, Marked, Source}
use Rattle.tok_lexical.specs.declared.rule.Rule.TheVariants.{Decimal}
use Rattle.tok_lexical.specs.declared.start.Start.TheVariants as start
use Rattle.tok_lexical.proofs.Decimals.{decimal_integer}
use Rattle.tok_lexical.proofs.Fits.{fits_longest}
use Rattle.tok_lexical.proofs.Identifiers.{letter_start}
use Rattle.tok_lexical.proofs.Seconds.{decides_digit, decides_zero}
use Rattle.tok_leaves.specs.IntegerTypes.{integer_type_name}
use Rattle.tok_leaves.specs.declared.integer_type.IntegerType.{IntegerType}
use Rattle.tok_leaves.specs.declared.integer_type.IntegerType.TheVariants.{I8, I16, I32, I64, I128}
use Rattle.tok_leaves.specs.declared.integer_type.IntegerType.TheVariants.{Isize, U8, U16, U32, U64}
use Rattle.tok_leaves.specs.declared.integer_type.IntegerType.TheVariants.{U128, Usize}
use Rattle.tok_values.specs.Integers.{IsInteger, IsIntegerSuffix, base_of}
use Rattle.tok_values.specs.Laws.{IsOnePiece}
use Rattle.tok_values.proofs.Digits.{step}
use Rattle.tok_values.proofs.Written.{whole}
use Rattle.tok_values.proofs.Passing.{all_ascii, all_pass}

-- digits and nothing else
abbrev AreDigits : List ℕ → Type 0
AreDigits digits = list_all (λ c. is_digit c 10) digits ≡ true

are_digits : (digits : List ℕ) → AllDigits 10 digits → AreDigits digits
are_digits [] h = refl
are_digits (c ∷ digits) h = and_from _ _ (lt-ltb (digit_value c) 10 h.0) (are_digits digits h.1)

digits_pass : (digits : List ℕ) → AreDigits digits →
    list_all (is_digit_or_underscore 10) digits ≡ true
digits_pass = all_pass (λ c. is_digit c 10) (is_digit_or_underscore 10) (λ c h. or_left _ _ h)

number_is : (digits : List ℕ) (n : ℕ) → AreDigits digits →
    fold (step 10) n digits ≡ digits_value_after 10 n digits
number_is [] n h = refl
number_is (c ∷ digits) n h =
    let both = and_parts (is_digit c 10) _ h in
    cc (number_is digits (n * 10 + digit_value c) both.1)

digit_low : (c : ℕ) → is_digit c 10 ≡ true → c < 58
digit_low c p = grind (arith, nat_tests)

digit_high : (c : ℕ) → is_digit c 10 ≡ true → 48 ≤ c
digit_high c p = grind (arith, nat_tests)

digits_ascii : (digits : List ℕ) → AreDigits digits → IsAscii digits
digits_ascii = all_ascii (λ c. is_digit c 10) (λ c p. let low = digit_low c p in omega (arith, low))

-- what a digit begins
start_digit : (c : ℕ) → is_digit c 10 ≡ true → (c == 48) ≡ false → start_of c ≡ start.Digit
start_digit c p other =
    let low = digit_low c p in
    let high = digit_high c p in
    let some = eqb-false c 48 other in
    sym (get_or-map-range_with_len start_of 49 9 (c - 49) c start.Rest (omega (arith, some))
    (omega (arith, some)))
    ∙ ap (λ w. get_or w (c - 49) start.Rest) {y = map (λ _. start.Digit) (range_with_len 49 9)} refl
    ∙ get_or-map-range_with_len (λ _. start.Digit) 49 9 (c - 49) c start.Rest (omega (arith, some))
    (omega (arith, some))

digit_no_base : (c : ℕ) (rest : List ℕ) → is_digit c 10 ≡ true → names_base (c ∷ rest) ≡ false
digit_no_base c rest p = grind (arith, nat_tests)

second_ten : (c d : ℕ) (rest : List ℕ) → names_base (d ∷ rest) ≡ false →
    base_of (c ∷ d ∷ rest) ≡ (10, c ∷ d ∷ rest)
second_ten c d rest h = grind arith

base_ten : (c : ℕ) (rest : List ℕ) → names_base rest ≡ false → base_of (c ∷ rest) ≡ (10, c ∷ rest)
base_ten c [] h = refl
base_ten c (d ∷ rest) h = second_ten c d rest h

-- what may follow the digits
record IsEnding (suffix : List ℕ) : Type 0 where
  pub ascii : IsAscii suffix
  pub ends : IsNumberSuffix 10 suffix
  pub stops : Stops (is_digit_or_underscore 10) suffix
  pub no_dot : begins_with 46 suffix ≡ false
  pub no_exponent : is_exponent suffix ≡ false
  pub no_base : names_base suffix ≡ false

nothing_more : IsEnding []
nothing_more = record {
  ascii = IsAscii-nil;
  ends = tt;
  stops = tt;
  no_dot = refl;
  no_exponent = refl;
  no_base = refl;
}

-- an ASCII letter or digit
abbrev is_letter : ℕ → Bool
is_letter c = nat_lt c 128 && is_ascii_alphanumeric c

letter_low : (c : ℕ) → is_letter c ≡ true → c < 128
letter_low c h = ltb-true c 128 (and_parts (nat_lt c 128) _ h).0

letter_continues : (c : ℕ) → is_letter c ≡ true → is_xid_continue c ≡ true
letter_continues c h =
    is_xid_continue-ascii c (letter_low c h) ∙ or_left _ _ (and_parts (nat_lt c 128) _ h).1

-- a name that begins with `i` or `u`
name_of : (c : ℕ) (cs : List ℕ) → c < 128 → is_ascii_alphabetic c ≡ true →
    starts_number_suffix 10 c ≡ true → Stops (is_digit_or_underscore 10) (c ∷ cs) →
    begins_with 46 (c ∷ cs) ≡ false → is_exponent (c ∷ cs) ≡ false → names_base (c ∷ cs) ≡ false →
    list_all is_letter cs ≡ true → IsEnding (c ∷ cs)
name_of c cs low letter starts stops dot exponent base all = record {
  ascii = IsAscii-cons c cs low (all_ascii is_letter letter_low cs all);
  ends = (
    starts,
    (
      sym (letter_start c low true (sym letter)),
      all_pass is_letter is_xid_continue letter_continues cs all,
    ),
  );
  stops = stops;
  no_dot = dot;
  no_exponent = exponent;
  no_base = base;
}

signed_name : (cs : List ℕ) → list_all is_letter cs ≡ true → IsEnding (105 ∷ cs)
signed_name cs all = name_of 105 cs (omega arith) refl refl refl refl refl refl all

unsigned_name : (cs : List ℕ) → list_all is_letter cs ≡ true → IsEnding (117 ∷ cs)
unsigned_name cs all = name_of 117 cs (omega arith) refl refl refl refl refl refl all

type_name : (type : IntegerType) → IsEnding (integer_type_name type)
type_name I8 = signed_name _ refl
type_name I16 = signed_name _ refl
type_name I32 = signed_name _ refl
type_name I64 = signed_name _ refl
type_name I128 = signed_name _ refl
type_name Isize = signed_name _ refl
type_name U8 = unsigned_name _ refl
type_name U16 = unsigned_name _ refl
type_name U32 = unsigned_name _ refl
type_name U64 = unsigned_name _ refl
type_name U128 = unsigned_name _ refl
type_name Usize = unsigned_name _ refl

-- the name of a type is in ASCII
pub type_ascii : (type : IntegerType) → IsAscii (integer_type_name type)
type_ascii type = (type_name type).ascii

ending_of : (suffix : List ℕ) → IsIntegerSuffix suffix → IsEnding suffix
ending_of suffix (inl e) = rw e nothing_more
ending_of suffix (inr (type, e)) = rw e (type_name type)

-- no float begins so
no_tail : (text : List ℕ) → begins_with 46 text ≡ false → is_exponent text ≡ false →
    HasPrefix IsFloatTail text → ⊥
no_tail text dot exponent (piece, after, cut, inl (more, e, fraction)) = cc
no_tail text dot exponent ([], after, cut, inr none) = none
no_tail text dot exponent (c ∷ more, after, cut, inr (letter, signed)) = cc

-- digits with what follows them
module _ (c : ℕ) (digits suffix : List ℕ) (h : AreDigits (c ∷ digits)) (w : IsEnding suffix) where
  -- the characters of the literal
  abbrev text : List ℕ
  text = c ∷ (digits ++ suffix)

  first : is_digit c 10 ≡ true
  first = (and_parts (is_digit c 10) _ h).0

  skips : Skips (is_digit_or_underscore 10) text (c ∷ digits) suffix
  skips = record { cut = refl; pass = digits_pass (c ∷ digits) h; stops = w.stops }

  base : names_base (digits ++ suffix) ≡ false
  base = at digits (and_parts (is_digit c 10) _ h).1
    where
      at : (ds : List ℕ) → AreDigits ds → names_base (ds ++ suffix) ≡ false
      at [] k = w.no_base
      at (d ∷ ds) k = digit_no_base d (ds ++ suffix) (and_parts (is_digit d 10) _ k).0

  spelled : Spells Decimal text
  spelled = (c ∷ digits, suffix, refl, digits_pass (c ∷ digits) h, first, w.ends)

  listed : (mode : Mode) → IsFirstFit text (among mode decimal_rules) Decimal text []
  listed Plain = here (whole (Spells Decimal) text spelled)
  listed Marked = here (whole (Spells Decimal) text spelled)
  listed (Source edition) =
      let (piece, fit) = decimal_integer text suffix (c ∷ digits) skips first suffix []
      (no_tail suffix w.no_dot w.no_exponent)
      (λ more e. false≢true (sym w.no_dot ∙ ap (begins_with 46) e))
      (whole (IsNumberSuffix 10) suffix w.ends) in
      let same : piece ≡ text = sym (append-nil piece) ∙ sym (fits_longest fit).cut in
      rw same at fit

  first_fit : (mode : Mode) → IsFirstFit text (rules_of mode) Decimal text []
  first_fit mode = at (c == 48) refl
    where
      at : (b : Bool) → (c == 48) ≡ b → IsFirstFit text (rules_of mode) Decimal text []
      at true e = decides_zero mode c text (digits ++ suffix) text [] Decimal refl (listed mode)
          (ap start_of (eqb-true c 48 e)) base
      at false e = decides_digit mode c text (digits ++ suffix) text [] Decimal refl (listed mode)
          (start_digit c first e)

  unrejected : (mode : Mode) (at : ℕ) → error_kind Decimal mode at text [] ≡ None
  unrejected Plain at = rw (and_right (is_bare 10 text) false refl)
  unrejected Marked at = rw (and_right (is_bare 10 text) false refl)
  unrejected (Source edition) at = refl

  read : (mode : Mode) → IsOnePiece mode Decimal text
  read mode = (first_fit mode, unrejected mode)

  value : (n : ℕ) → digits_value 10 (c ∷ digits) ≡ n → IsInteger text n suffix
  value n is = (
    first,
    rw (base_ten c (digits ++ suffix) base) (record {
      digits = c ∷ digits;
      skips = skips;
      some = or_left _ _ first;
      ends = w.ends;
      is = sym (number_is (c ∷ digits) 0 h ∙ is);
    }),
  )

-- of any digits
made : (mode : Mode) (digits suffix : List ℕ) (n : ℕ) → 0 < length digits → AllDigits 10 digits →
    digits_value 10 digits ≡ n → IsEnding suffix →
    IsOnePiece mode Decimal (digits ++ suffix) × IsInteger (digits ++ suffix) n suffix
made mode [] suffix n some h is w = absurd (omega (arith, some))
made mode (c ∷ digits) suffix n some h is w =
    let all = are_digits (c ∷ digits) h in
    (read c digits suffix all w mode, value c digits suffix all w n is)

pub integers_are_read : (mode : Mode) (n : ℕ) → n < 2 ^ 128 → (suffix : List ℕ) →
    IsIntegerSuffix suffix → let text = chars (decimal n ++ suffix) in
    IsOnePiece mode Decimal text × IsInteger text n suffix
integers_are_read mode n few suffix s =
    let w = ending_of suffix s in
    let (numeral, is) = decimal_is_IsNumeral_wide n (omega (arith, few)) in
    let same = chars-IsAscii (decimal n ++ suffix)
    (IsAscii-append (decimal n) suffix
    (digits_ascii (decimal n) (are_digits (decimal n) numeral.1)) w.ascii) in
    rw same (made mode (decimal n) suffix n numeral.0 numeral.1 is w)
