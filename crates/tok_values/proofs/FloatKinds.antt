-- A literal that has a value as a float is a float, digits and a dot, or a decimal integer, with no
-- suffix or the name of a type of floats.
use Rattle.std.proofs.Common.{◌≡◌, ◌∙◌, ℕ, suc, ◌-◌, ◌<◌, ◌≤◌, List, [], ◌∷◌, ◌++◌, Option, None}
use Rattle.std.proofs.Common.{Some, Bool, true, false, refl, sym, ap, arith, inl, inr}
use Rattle.std.proofs.Common.{cond, drop, length, length-append, take}
use Rattle.std.specs.Prelude.{◌==◌, ◌||◌, ◌⊎◌, bytes_eq, codes, encode_utf8, encode_utf8_all}
use Rattle.std.specs.Prelude.{is_some}
use Rattle.std.specs.Char.{is_digit}
use Rattle.std.specs.Cmp.Lexicographic.{same_text}
use Rattle.std.specs.Float.{Float, binary64}
use Rattle.std.specs.Float.Parse.{is_float_text, parse_float}
use Rattle.std.specs.List.{list_all}
use Rattle.std.specs.Str.{IsAscii, IsUtf8, chars}
use Rattle.std.proofs.lemmas.Bool.{and_right, cases_lt, cond_both, or_cases, false≢true}
use Rattle.std.proofs.lemmas.Float.Parse.{is_some-parse_float}
use Rattle.std.proofs.lemmas.List.{append_cancel_left, take-append-drop}
use Rattle.std.proofs.lemmas.List.Folds.{list_all-append}
use Rattle.std.proofs.lemmas.Str.{IsAscii-append, chars-IsAscii, encodes-IsAscii, encodes-append}
use Rattle.std.proofs.lemmas.Str.{encodes-chars, inside_one, len_utf8_bounds, length-encode}
use Rattle.tok_lexical.specs.Numbers.{starts_digit}
use Rattle.tok_lexical.specs.Rules.{Spells}
use Rattle.tok_lexical.specs.declared.contents.Contents.TheVariants.{Bytes, C, Text}
use Rattle.tok_lexical.specs.declared.numbers.Base.TheVariants.{Hexadecimal, Octal, Binary}
use Rattle.tok_lexical.specs.declared.rule.Rule.{Rule}
use Rattle.tok_lexical.specs.declared.rule.Rule.TheVariants.{QuotedString, RawString, ByteChar}
use Rattle.tok_lexical.specs.declared.rule.Rule.TheVariants.{EscapedChar, PlainChar, Based}
use Rattle.tok_lexical.specs.declared.rule.Rule.TheVariants as rule
use Rattle.tok_lexical.specs.declared.rule.Rule.TheVariants.{PointedDecimal, Decimal}
use Rattle.tok_lexical.proofs.Fits.{fits_longest}
use Rattle.tok_leaves.specs.Literals.{IsOneLiteral, is_literal_rule}
use Rattle.tok_values.specs.Floats.{IsFloatSuffix, begins_decimal, float_value, without_type, without_underscores}
use Rattle.tok_values.specs.Integers.{base_of}
use Rattle.tok_values.specs.Laws.{NumbersAloneHaveFloats}
use Rattle.tok_values.specs.Suffixes.{literal_suffix}
use Rattle.tok_values.proofs.FloatEndings.{starts_on}
use Rattle.tok_values.proofs.FloatValues.{Halts, IsDecimalNumber, Reads, after, after_append}
use Rattle.tok_values.proofs.FloatValues.{begins, decimal, front_starts, halted, high_halts}
use Rattle.tok_values.proofs.FloatValues.{is_part, number_reads, number_starts, number_text}
use Rattle.tok_values.proofs.FloatValues.{parts_ascii, float_type_ascii}
use Rattle.tok_values.proofs.Numerals.{first_digit}
use Rattle.tok_values.proofs.Quoted.{two}
use Rattle.std.proofs.lemmas.Bool.Decides.{nat_tests}

-- a number in another base has no value
marked : (m : ℕ) (rest : List ℕ) → Halts 1 m →
    is_float_text (without_underscores (48 ∷ m ∷ rest)) ≡ false
marked m rest h = number_text (48 ∷ m ∷ rest) refl ∙ halted 1 m rest h

longer : (m n k : ℕ) (rest : List ℕ) (b : Bool) → n ≡ suc (suc k) →
    (other : List ℕ) × (cond b (take n (48 ∷ m ∷ rest)) (48 ∷ m ∷ rest) ≡ 48 ∷ m ∷ other)
longer m n k rest true e = (take k rest, ap (λ i. take i (48 ∷ m ∷ rest)) e)
longer m n k rest false e = (rest, refl)

-- its front is not the name of a type
keeps_front : (m : ℕ) (rest : List ℕ) → (m == 102) ≡ false →
    (other : List ℕ) × (without_type (48 ∷ m ∷ rest) ≡ 48 ∷ m ∷ other)
keeps_front m [] h = ([], refl)
keeps_front m (x ∷ []) h = (x ∷ [], refl)
keeps_front m (x ∷ y ∷ []) h = (x ∷ y ∷ [], simp h)
keeps_front m (x ∷ y ∷ z ∷ rest) h =
    longer m (length (48 ∷ m ∷ x ∷ y ∷ z ∷ rest) - 3) (length rest) (x ∷ y ∷ z ∷ rest) _
    (omega arith)

is_none : (o : Option Float) (value : Float) → is_some o ≡ false → o ≡ Some value → ⊥
is_none o value h e = cc

some_if : {A : Type 0} (b : Bool) (o : Option A) (value : A) → cond b o None ≡ Some value → b ≡ true
some_if true o value e = refl
some_if false o value e = absurd (cc)

-- the names of bases
base_cases : (c d : ℕ) (rest : List ℕ) → ((base_of (c ∷ d ∷ rest)).0 ≡ 10)
    ⊎ ((c ≡ 48) × ((d ≡ 120) ⊎ ((d ≡ 111) ⊎ (d ≡ 98))))
base_cases c d rest = grind (arith, nat_tests)

module _ (bytes : List ℕ) (u : IsUtf8 bytes) (value : Float) (has : float_value bytes ≡ Some value)
  where
    based : (m : ℕ) (more : List ℕ) → m < 128 → Halts 1 m → (m == 102) ≡ false →
        chars bytes ≡ 48 ∷ m ∷ more → ⊥
    based m more low halts other e =
        let rest = encode_utf8_all more in
        let same : bytes ≡ 48 ∷ m ∷ rest =
        sym (encodes-chars bytes u) ∙ ap encode_utf8_all e ∙ encodes-append (48 ∷ m ∷ []) more
        ∙ ap (λ w. w ++ rest) (two 48 m (omega arith) low) in
        let (left, front) = keeps_front m rest other in
        let none : is_float_text (without_underscores (without_type (48 ∷ m ∷ rest))) ≡ false =
        rw front (marked m left halts) in
        is_none _ value (is_some-parse_float binary64 _ ∙ none) (sym (ap float_value same) ∙ has)

    digit_first : starts_digit (chars bytes) ≡ true
    digit_first = at bytes u (some_if (begins_decimal bytes) _ value has)
      where
        at : (bs : List ℕ) → IsUtf8 bs → begins_decimal bs ≡ true → starts_digit (chars bs) ≡ true
        at [] v is = absurd (false≢true is)
        at (b ∷ bs) v is = sym (first_digit (b ∷ bs) b v (omega arith) refl) ∙ decimal b is

    -- a number that names a base has no value
    ten : (base_of (chars bytes)).0 ≡ 10
    ten = at (chars bytes) refl
      where
        at : (text : List ℕ) → chars bytes ≡ text → (base_of text).0 ≡ 10
        at [] e = refl
        at (c ∷ []) e = refl
        at (c ∷ d ∷ rest) e = elim (base_cases c d rest) [
          | inl ten ↦ ten
          | inr (f, inl g) ↦ absurd (based 120 rest (omega arith) (refl, refl) refl (cc))
          | inr (f, inr (inl g)) ↦ absurd (based 111 rest (omega arith) (refl, refl) refl (cc))
          | inr (f, inr (inr g)) ↦ absurd (based 98 rest (omega arith) (refl, refl) refl (cc))
        ]

-- a literal that begins with a digit and names no base is a decimal number
module _ (text : List ℕ) (digit : starts_digit text ≡ true) (ten : (base_of text).0 ≡ 10) where
  starts_with : (c : ℕ) (more : List ℕ) → is_digit c 10 ≡ false → text ≡ c ∷ more → ⊥
  starts_with c more h e = cc

  names : (m n : ℕ) (more rest : List ℕ) → (base_of (48 ∷ m ∷ rest)).0 ≡ n → (n ≡ 10 → ⊥) →
      text ≡ 48 ∷ more → more ≡ m ∷ rest → ⊥
  names m n more rest is other e f = other (cc)

  pub by_rule : (r : Rule) → is_literal_rule r ≡ true → Spells r text → IsDecimalNumber text
  by_rule (QuotedString Text) is (body, suffix, e, units, s) = absurd (starts_with 34 _ refl e)
  by_rule (QuotedString Bytes) is (more, e, s) = absurd (starts_with 98 _ refl e)
  by_rule (QuotedString C) is (more, e, s) = absurd (starts_with 99 _ refl e)
  by_rule (RawString Text) is (more, e, s) = absurd (starts_with 114 _ refl e)
  by_rule (RawString Bytes) is (more, e, s) = absurd (starts_with 98 _ refl e)
  by_rule (RawString C) is (more, e, s) = absurd (starts_with 99 _ refl e)
  by_rule ByteChar is (more, e, s) = absurd (starts_with 98 _ refl e)
  by_rule EscapedChar is (inner, suffix, e, char, s) = absurd (starts_with 39 _ refl e)
  by_rule PlainChar is (inner, suffix, e, char, s) = absurd (starts_with 39 _ refl e)
  by_rule (Based Hexadecimal) is (more, e, (n, f, s)) =
      absurd (names 120 16 more n refl (λ w. omega (arith, w)) e f)
  by_rule (Based Octal) is (more, e, (n, f, s)) =
      absurd (names 111 8 more n refl (λ w. omega (arith, w)) e f)
  by_rule (Based Binary) is (more, e, (n, f, s)) =
      absurd (names 98 2 more n refl (λ w. omega (arith, w)) e f)
  by_rule rule.Float is s = inl s
  by_rule PointedDecimal is s = inr (inl s)
  by_rule Decimal is s = inr (inr s)
  by_rule r is s = absurd (false≢true is)

pub literal_number : (text : List ℕ) → IsOneLiteral text → starts_digit text ≡ true →
    (base_of text).0 ≡ 10 → IsDecimalNumber text
literal_number text (r, is, fit, ok) digit ten =
    by_rule text digit ten r is (fits_longest fit).spelled

-- one text, cut twice: one cut is behind the other
abbrev Cuts : (a b c d : List ℕ) → Type 0
Cuts a b c d =
    ((m : List ℕ) × (a ≡ c ++ m) × (d ≡ m ++ b))
    ⊎ ((x : ℕ) × (m : List ℕ) × (c ≡ a ++ x ∷ m) × (b ≡ x ∷ (m ++ d)))

two_cuts : (a b c d : List ℕ) → a ++ b ≡ c ++ d → Cuts a b c d
two_cuts a b [] d e = inl (a, refl, sym e)
two_cuts [] b (x ∷ c) d e = inr (x, c, refl, e)
two_cuts (y ∷ a) b (x ∷ c) d e =
    elim (two_cuts a b c d (cc)) [
      | inl (m, f, g) ↦ inl (m, cc, g)
      | inr (z, m, f, g) ↦ inr (z, m, cc, g)
    ]

-- the name of a type at the end is cut off
abbrev IsName : List ℕ → Type 0
IsName name = (name ≡ codes "f32") ⊎ (name ≡ codes "f64")

-- the whole text, or the text before the name of a type
abbrev IsCut : List ℕ → List ℕ → Type 0
IsCut text front = (front ≡ text) ⊎ ((name : List ℕ) × IsName name × (front ++ name ≡ text))

type_cut_off : (text : List ℕ) → IsCut text (without_type text)
type_cut_off text =
    let n = length text - 3 in
    let last = drop n text in
    cond_both (bytes_eq last (codes "f32") || bytes_eq last (codes "f64")) (take n text) text
    (IsCut text) (λ h. elim (or_cases _ _ h) [
      | inl e ↦ inr (last, inl (same_text last _ (sym e)), take-append-drop n text)
      | inr e ↦ inr (last, inr (same_text last _ (sym e)), take-append-drop n text)
    ]) (λ _. inl refl)

-- the first byte of a character, which is the character itself if it is ASCII
abbrev BeginsAs : ℕ → List ℕ → Type 0
BeginsAs c bytes = (b : ℕ) × (more : List ℕ) × (bytes ≡ b ∷ more) × ((b ≡ c) ⊎ (128 ≤ b))

first_byte : (c : ℕ) (rest : List ℕ) → BeginsAs c (encode_utf8_all (c ∷ rest))
first_byte c rest = at (encode_utf8_all (c ∷ rest)) refl
  where
    some : 0 < length (encode_utf8 c)
    some = omega (arith, length-encode c, (len_utf8_bounds c).0)

    at : (bytes : List ℕ) → encode_utf8_all (c ∷ rest) ≡ bytes → BeginsAs c bytes
    at [] e =
        let l = length-append (encode_utf8 c) (encode_utf8_all rest) in
        absurd (omega (arith, ap length e, l, some))
    at (b ∷ more) e = elim (cases_lt b 128) [
      | inl low ↦
          let same = inside_one c (encode_utf8_all rest) (b ∷ more) 0 (sym e) some low in
          (b, more, refl, inl (sym same))
      | inr high ↦ (b, more, refl, inr high)
    ]

-- a number with another suffix has no value
module _ (bytes suffix : List ℕ) (u : IsUtf8 bytes) (starts : starts_digit (chars bytes) ≡ true)
    (r : Reads 0 (chars bytes) suffix) (value : Float) (has : float_value bytes ≡ Some value) where
  -- the bytes after the digits
  abbrev after_front : List ℕ
  after_front = encode_utf8_all suffix

  joined : bytes ≡ r.front ++ after_front
  joined =
      let whole = encodes-chars bytes u in
      let parts = encodes-append r.front suffix in
      cc (r.cut, encodes-IsAscii r.front (parts_ascii r.front r.parts))

  front_begins : (more : List ℕ) → starts_digit (r.front ++ more) ≡ true
  front_begins more =
      starts_on r.front more (front_starts r.front suffix r.reads (rw r.cut at starts))

  read : parse_float binary64 (without_underscores (without_type bytes)) ≡ Some value
  read = rw (begins bytes (rw joined (front_begins after_front))) at has

  -- what goes on after the front is no number
  longer_none : (c : ℕ) (rest : List ℕ) (b : ℕ) (more : List ℕ) → suffix ≡ c ∷ rest →
      (b ≡ c) ⊎ (128 ≤ b) → without_type bytes ≡ r.front ++ b ∷ more → ⊥
  longer_none c rest b more e first same =
      let stays = rw e at r.stays in
      let halts : Halts (after 0 r.front) b = elim first [
        | inl f ↦ rw f stays
        | inr high ↦ high_halts (after 0 r.front) b high
      ] in
      let text = r.front ++ b ∷ more in
      let none : is_float_text (without_underscores text) ≡ false =
      rw (number_text text (front_begins (b ∷ more)), after_append 0 r.front (b ∷ more))
      (halted (after 0 r.front) b more halts) in
      is_none _ value (is_some-parse_float binary64 (without_underscores text) ∙ none)
      (rw same at read)

  no_f : (w m : List ℕ) (x : ℕ) → x ≡ 102 → r.front ≡ w ++ x ∷ m → ⊥
  no_f w m x f e =
      let parts = list_all-append is_part w (x ∷ m) in
      let none = and_right (list_all is_part w) false refl in cc (r.parts)

  name_first : (name more : List ℕ) (x : ℕ) → IsName name → name ≡ x ∷ more → x ≡ 102
  name_first name more x (inl e) f = cc
  name_first name more x (inr e) f = cc

  name_low : (name : List ℕ) → IsName name → IsAscii name
  name_low name is = float_type_ascii name (inr is)

  named : (name : List ℕ) → IsName name → after_front ≡ name → suffix ≡ name
  named name is e =
      let whole : bytes ≡ r.front ++ name = cc (joined) in
      let ascii = IsAscii-append r.front name (parts_ascii r.front r.parts) (name_low name is) in
      append_cancel_left r.front suffix name (cc (r.cut, chars-IsAscii (r.front ++ name) ascii))

  -- nothing is cut off
  whole_typed : (s : List ℕ) → suffix ≡ s → without_type bytes ≡ bytes → IsFloatSuffix suffix
  whole_typed [] e same = inl e
  whole_typed (c ∷ rest) e same =
      let (b, more, f, first) = first_byte c rest in
      absurd (longer_none c rest b more e first (cc (joined)))

  -- a name is cut off, after the front
  cut_typed : (name m s : List ℕ) → IsName name → without_type bytes ≡ r.front ++ m →
      after_front ≡ m ++ name → suffix ≡ s → IsFloatSuffix suffix
  cut_typed name [] s is same e f = inr (rw (named name is e) is)
  cut_typed name (x ∷ m) [] is same e f = inl f
  cut_typed name (x ∷ m) (c ∷ rest) is same e f =
      let (b, more, g, first) = first_byte c rest in
      absurd (longer_none c rest b m f first (cc))

  pub suffix_typed : IsFloatSuffix suffix
  suffix_typed = elim (type_cut_off bytes) [
    | inl same ↦ whole_typed suffix refl same
    | inr (name, is, cut) ↦ elim (two_cuts (without_type bytes) name r.front after_front (cut
        ∙ joined)) [
          | inl (m, f, g) ↦ cut_typed name m suffix is f g refl
          | inr (x, m, f, g) ↦ absurd (no_f (without_type bytes) m x (name_first name _ x is g) f)
        ]
  ]

pub numbers_alone_have_floats : NumbersAloneHaveFloats
numbers_alone_have_floats bytes u one value has =
    let base = ten bytes u value has in
    let number = literal_number (chars bytes) one (digit_first bytes u value has) base in (
      base,
      suffix_typed bytes (literal_suffix (chars bytes)) u (number_starts (chars bytes) number)
          (number_reads (chars bytes) base number) value has,
      number,
    )
