-- The suffix of a number names a type, or there is none.
use Rattle.std.proofs.Common.{◌≡◌, ◌∙◌, ℕ, List, Bool, true, false, None, Option, Some, ap}
use Rattle.std.proofs.Common.{inl, inr, length, refl, sym}
use Rattle.std.specs.Prelude.{◌==◌, MatchBool, MatchOption, is_some}
use Rattle.std.specs.Str.{IsAscii, IsUtf8, chars}
use Rattle.std.proofs.lemmas.Bool.{false≢true}
use Rattle.std.proofs.lemmas.Str.{chars-IsAscii, chars-nil, encodes-IsAscii, encodes-chars}
use Rattle.tok_leaves.specs.IntegerTypes.{integer_type_name}
use Rattle.tok_leaves.specs.declared.integer_type.IntegerType.{IntegerType}
use Rattle.tok_lexical.proofs.Texts.{some_left}
use Rattle.tok_leaves.proofs.Names.{no_text}
use Rattle.tok_values.specs.Floats.{IsFloatSuffix}
use Rattle.tok_values.specs.Integers.{IsInteger, IsIntegerSuffix, base_of}
use Rattle.tok_values.specs.Suffixes.{literal_suffix}
use Rattle.tok_values.specs.TypedNumbers.{HasFloatValue, IsNumberText, IsTypedInteger}
use Rattle.tok_values.proofs.Endings.{integers_have_their_suffix}
use Rattle.tok_values.proofs.FloatKinds.{literal_number, numbers_alone_have_floats}
use Rattle.tok_values.proofs.FloatValues.{float_has_value, float_type_ascii}
use Rattle.tok_values.proofs.MadeIntegers.{type_ascii}

-- a text whose characters are ASCII is them
same_bytes : (text word : List ℕ) → IsUtf8 text → IsAscii word → chars text ≡ word → text ≡ word
same_bytes text word u low same = cc (encodes-chars text u, encodes-IsAscii word low)

-- the bytes of a suffix tell whether it is one of a float
pub float_suffix_chars : (text : List ℕ) → IsFloatSuffix text → IsFloatSuffix (chars text)
float_suffix_chars text is = rw (chars-IsAscii text (float_type_ascii text is)) is

pub float_suffix_bytes : (text : List ℕ) → IsUtf8 text → IsFloatSuffix (chars text) →
    IsFloatSuffix text
float_suffix_bytes text u is =
    rw (same_bytes text (chars text) u (float_type_ascii (chars text) is) refl) is

pub none_named : (text : List ℕ) (b : Bool) → b ≡ (length text == 0) → b ≡ true →
    MatchBool b (IsIntegerSuffix (chars text)) (IsIntegerSuffix (chars text) → ⊥)
none_named text true e h = inl (ap chars (no_text text (sym e)) ∙ chars-nil)
none_named text false e h = absurd (false≢true h)

pub some_named : (text : List ℕ) (named : Option IntegerType) (b : Bool) → IsUtf8 text →
    (length text == 0) ≡ false → b ≡ is_some named →
    MatchOption named ((type : IntegerType) → text ≡ integer_type_name type → ⊥)
    (λ type. text ≡ integer_type_name type) →
    MatchBool b (IsIntegerSuffix (chars text)) (IsIntegerSuffix (chars text) → ⊥)
some_named text (Some type) false u some e same = absurd (false≢true e)
some_named text None true u some e other = absurd (false≢true (sym e))
some_named text (Some type) true u some e same =
    inr (type, ap chars same ∙ chars-IsAscii (integer_type_name type) (type_ascii type))
some_named text None false u some e other =
    λ s. elim s [
      | inl none ↦ some_left text u some none
      | inr (type, same) ↦ other type (same_bytes text (integer_type_name type) u (type_ascii type)
          same)
    ]

-- the suffix of an integer tells its type
pub integer_typed : (text : List ℕ) (value : ℕ) (suffix : List ℕ) → IsInteger text value suffix →
    (b : Bool) →
    MatchBool b (IsIntegerSuffix (literal_suffix text))
    (IsIntegerSuffix (literal_suffix text) → ⊥) →
    MatchBool b (IsTypedInteger text) (IsTypedInteger text → ⊥)
integer_typed text value suffix i true h = (
  value,
  suffix,
  i,
  rw (integers_have_their_suffix text value suffix i).0 at h,
)
integer_typed text value suffix i false h = λ (v, s, j, k).
    h (rw (integers_have_their_suffix text v s j).0 k)

-- the base and the suffix of a number tell whether it has a value as a float
pub float_valued : (bytes : List ℕ) → IsUtf8 bytes → IsNumberText (chars bytes) →
    (base_of (chars bytes)).0 ≡ 10 → (b : Bool) →
    MatchBool b (IsFloatSuffix (literal_suffix (chars bytes)))
    (IsFloatSuffix (literal_suffix (chars bytes)) → ⊥) →
    MatchBool b (HasFloatValue bytes) (HasFloatValue bytes → ⊥)
float_valued bytes u (one, digit) ten true named =
    float_has_value bytes u ten (literal_number (chars bytes) one digit ten) named
float_valued bytes u (one, digit) ten false other =
    λ (value, has). other (numbers_alone_have_floats bytes u one value has).1

pub based_valueless : (bytes : List ℕ) → IsUtf8 bytes → IsNumberText (chars bytes) →
    ((base_of (chars bytes)).0 ≡ 10 → ⊥) → HasFloatValue bytes → ⊥
based_valueless bytes u (one, digit) based (value, has) =
    based (numbers_alone_have_floats bytes u one value has).0
