-- The functions of values find what the grammar has.
use Rattle.std.proofs.Common.{◌≡◌, ◌≤◌, Ok, Err, ℕ, zero, suc, List, [], ◌∷◌, Option, Some, None}
use Rattle.std.proofs.Common.{Bool, true, false, refl, sym, ap, arith, eqb-true, inl, inr}
use Rattle.std.specs.Prelude.{◌==◌, length, option_map, encode_utf8_all, IfOk, MatchOption, Result}
use Rattle.std.proofs.lemmas.Bool.{and_from, and_parts, cases_Bool, cond_both, false_from_ne_true, false≢true}
use Rattle.std.proofs.lemmas.Option.{cond_some}
use Rattle.tok_lexical.specs.Numbers.{IsNumberSuffix, is_digit_or_underscore, starts_digit}
use Rattle.tok_lexical.specs.Pieces.{Skips}
use Rattle.tok_values.specs.Integers.{IsDigits, ReadsInteger, base_of}
use Rattle.tok_values.specs.Numbers.{number}
use Rattle.tok_values.specs.Strings.{InQuotes, IsNothing, IsStringValue, Means, more, nothing, unit}
use Rattle.tok_values.specs.Values.{HasValue, IntegersHaveOneValue, StringsHaveOneValue}
use Rattle.tok_values.specs.Values.{and_rest_of, characters_in_quotes, integer_value}
use Rattle.tok_values.specs.Values.{is_number_suffix}
use Rattle.tok_values.specs.Values.{is_quote, split, string_value, up_to_quote, value_in_base}
use Rattle.tok_values.specs.declared.integers.Integer.{Integer}
use Rattle.tok_values.specs.declared.integers.IntegerFault.{IntegerFault}
use Rattle.tok_values.specs.declared.integers.IntegerFault.TheVariants.{NotInteger, TooLarge}
use Rattle.tok_values.proofs.Digits.{same_digits}
use Rattle.tok_values.proofs.Ends.{unit_lowers}

quote_is : (text : List ℕ) → is_quote text ≡ true → text ≡ 34 ∷ []
quote_is [] e = absurd (false≢true e)
quote_is (c ∷ []) e = cc (eqb-true c 34 e)
quote_is (c ∷ d ∷ rest) e = absurd (false≢true e)

-- no unit begins at the last quote
not_last : (text front after : List ℕ) → unit false text ≡ Some (front, after) →
    is_quote text ≡ false
not_last text front after e =
    false_from_ne_true (is_quote text) (λ q. let none = quote_is text q in absurd (cc))

finds : (n : ℕ) (text rest characters : List ℕ) → Means false text rest characters
    → rest ≡ 34 ∷ [] → length text ≤ n → up_to_quote n text ≡ Some characters
finds zero _ _ _ (nothing text) r h = let k = ap length r in absurd (omega (arith, k, h))
finds zero _ _ _ (more text after rest front characters e m) r h =
    let k = unit_lowers false text front after e in absurd (omega (arith, k, h))
finds (suc n) _ _ _ (nothing text) r h = rw r
finds (suc n) _ _ _ (more text after rest front characters e m) r h =
    let k = unit_lowers false text front after e in
    let again = finds n after rest characters m r (omega (arith, k, h)) in
    cc (not_last text front after e)

-- what a value was mapped from
mapped : {A B : Type 0} (f : A → B) (found : Option A) (value : B) →
    option_map f found ≡ Some value → (v : A) × (found ≡ Some v) × (f v ≡ value)
mapped f None value e = absurd (cc)
mapped f (Some v) value e = (v, refl, cc)

-- what so many units find is what the grammar has
abbrev Found : ℕ → Type 0
Found n = (text characters : List ℕ) → up_to_quote n text ≡ Some characters
    → Means false text (34 ∷ []) characters

found_more : (n : ℕ) → Found n → Found (suc n)
found_more n found text characters e = elim (cases_Bool (is_quote text)) [
  | inl q ↦ let none : [] ≡ characters = cc in rw (quote_is text q, ← none) (nothing (34 ∷ []))
  | inr q ↦ at (unit false text) refl (cc)
]
  where
    at : (o : Option (List ℕ × List ℕ)) → unit false text ≡ o
        → and_rest_of (up_to_quote n) o ≡ Some characters → Means false text (34 ∷ []) characters
    at None u e = absurd (cc)
    at (Some p) u e =
        let (rest, k, is) = mapped _ (up_to_quote n p.1) characters e in
        rw (← is) (more text p.1 (34 ∷ []) p.0 rest u (found p.1 rest k))

finds_within : (n : ℕ) → Found n
finds_within zero text characters e = absurd (cc)
finds_within (suc n) text characters e = found_more n (finds_within n) text characters e

-- a string literal without a suffix, and its characters
abbrev Quoted : (text characters : List ℕ) → Type 0
Quoted = InQuotes IsNothing (unit false)

finds_in_quotes : (text characters : List ℕ) → Quoted text characters
    → characters_in_quotes text ≡ Some characters
finds_in_quotes text characters (inner, e, (rest, m, (left, f, none))) =
    rw e (finds (length inner) inner rest characters m (cc) (omega arith))

stands_in_quotes : (text characters : List ℕ) → characters_in_quotes text ≡ Some characters
    → Quoted text characters
stands_in_quotes [] characters e = absurd (cc)
stands_in_quotes (c ∷ inner) characters e = elim (cases_Bool (c == 34)) [
  | inl q ↦
      let m = finds_within (length inner) inner characters (cc) in
      (inner, cc (eqb-true c 34 q), (34 ∷ [], m, ([], refl, refl)))
  | inr q ↦ absurd (cc)
]

pub strings_have_one_value : StringsHaveOneValue
unfolding string_value
strings_have_one_value text value = (
  λ h. let found = finds_in_quotes text h.0 h.1 in cc (h.2),
  λ e. let (characters, k, is) = mapped encode_utf8_all (characters_in_quotes text) value e in
      (characters, stands_in_quotes text characters k, sym is),
)

splits : (p : ℕ → Bool) (text : List ℕ) → Skips p text (split p text).0 (split p text).1
splits p [] = record { cut = refl; pass = refl; stops = tt }
splits p (c ∷ text) =
    let s = splits p text in
    cond_both (p c) _ _ (λ (parts : List ℕ × List ℕ). Skips p (c ∷ text) parts.0 parts.1)
    (λ e. record { cut = cc (s.cut); pass = and_from _ _ e s.pass; stops = s.stops })
    (λ e. record { cut = refl; pass = refl; stops = e })

suffix_is : (radix : ℕ) (text : List ℕ) → IsNumberSuffix radix text
    → is_number_suffix radix text ≡ true
suffix_is radix [] h = refl
suffix_is radix (c ∷ text) h = and_from _ _ h.0 (and_from _ _ h.1.0 h.1.1)

is_suffix : (radix : ℕ) (text : List ℕ) → is_number_suffix radix text ≡ true
    → IsNumberSuffix radix text
is_suffix radix [] h = tt
is_suffix radix (c ∷ text) h =
    let one = and_parts _ _ h in
    let two = and_parts _ _ one.1 in
    (one.0, (two.0, two.1))

digits_found : (radix : ℕ) (text suffix : List ℕ) (value : ℕ) → IsDigits radix text suffix value
    → value_in_base radix text ≡ Some (value, suffix)
digits_found radix text suffix value d =
    let parts = split (is_digit_or_underscore radix) text in
    let same = same_digits radix text suffix parts.0 parts.1 value d (splits _ text) in
    cc (same.0, same.1, d.some, suffix_is radix suffix d.ends, d.is)

found_digits : (radix : ℕ) (text suffix : List ℕ) (value : ℕ)
    → value_in_base radix text ≡ Some (value, suffix) → IsDigits radix text suffix value
found_digits radix text suffix value e =
    let parts = split (is_digit_or_underscore radix) text in
    let (k, same) = cond_some _ (number radix parts.0, parts.1) (value, suffix) e in
    let left : parts.1 ≡ suffix = ap (λ (p : ℕ × List ℕ). p.1) same in
    let both = and_parts _ _ k in record {
      digits = parts.0;
      skips = rw left at (splits (is_digit_or_underscore radix) text);
      some = both.0;
      ends = rw left at (is_suffix radix parts.1 both.1);
      is = sym (ap (λ (p : ℕ × List ℕ). p.0) same);
    }

pub integers_have_one_value : IntegersHaveOneValue
unfolding integer_value
integers_have_one_value text value suffix = (
  λ h. let found = digits_found (base_of text).0 (base_of text).1 suffix value h.1 in cc (h.0),
  λ e. elim (cases_Bool (starts_digit text)) [
    | inl s ↦ (s, found_digits (base_of text).0 (base_of text).1 suffix value (cc))
    | inr s ↦ absurd (cc)
  ],
)

none_of : {A : Type 0} (found : Option A) → ((v : A) → found ≡ Some v → ⊥) → found ≡ None
none_of None none = refl
none_of (Some v) none = absurd (none v refl)

-- what the functions of the crate return
module _ {S : Type 0} (bytes : S → List ℕ) (text : List ℕ) where
  -- the answer is a value by the grammar
  abbrev Reads : Option S → Type 0
  Reads answer =
      MatchOption answer ((value : List ℕ) → IsStringValue text value → ⊥)
      (λ value. IsStringValue text (bytes value))

  -- the answer is the value that the function finds
  abbrev HasFound : Option S → Type 0
  HasFound answer = option_map bytes answer ≡ string_value text

  one_string : (answer : Option S) → Reads answer → HasFound answer
  one_string (Some s) h = sym ((strings_have_one_value text (bytes s)).0 h)
  one_string None h =
      sym (none_of (string_value text) (λ v e. h v ((strings_have_one_value text v).1 e)))

  pub string_found : {E : Type 0} (answer : Result (Option S) E) → IfOk answer Reads
      → IfOk answer HasFound
  string_found (Ok o) h = one_string o h
  string_found (Err e) h = tt

pub integer_found : (text : List ℕ) (answer : Result Integer IntegerFault)
    → ReadsInteger text answer → HasValue (integer_value text) answer
integer_found text (Ok i) h = (integers_have_one_value text i.value _).0 h
integer_found text (Err NotInteger) h =
    none_of (integer_value text) (λ p e. h p.0 p.1 ((integers_have_one_value text p.0 p.1).1 e))
integer_found text (Err TooLarge) h = rw ((integers_have_one_value text h.0 h.1).0 h.2) h.3
