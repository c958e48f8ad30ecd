-- Laws of values.
use Rattle.std.specs.Ffi.{HasNoNul}
use Rattle.std.specs.Prelude.{◌≡◌, ◌<◌, ◌^◌, ◌⊎◌, ℕ, List, [], ◌∷◌, ◌++◌, None, Some, codes}
use Rattle.std.specs.Prelude.{◌↔◌, true, false}
use Rattle.std.specs.Char.{IsScalar}
use Rattle.std.specs.Fmt.{decimal}
use Rattle.std.specs.Float.{Float, binary64}
use Rattle.std.specs.Float.Parse.{parse_float}
use Rattle.std.specs.Str.{chars, IsUtf8}
use Rattle.tok_lexical.specs.Ascii.{lower_b, lower_c}
use Rattle.tok_lexical.specs.Contents.{has_bare_return, has_misfit, is_wrong}
use Rattle.tok_lexical.specs.Editions.{reserves_prefixes}
use Rattle.tok_lexical.specs.Errors.{error_kind}
use Rattle.tok_lexical.specs.Fits.{IsFirstFit}
use Rattle.tok_lexical.specs.Floats.{IsFloat, IsPointed}
use Rattle.tok_lexical.specs.Numbers.{IsDecimal}
use Rattle.tok_lexical.specs.Pieces.{After}
use Rattle.tok_lexical.specs.Raw.{IsRawString}
use Rattle.tok_lexical.specs.Rules.{rules_of}
use Rattle.tok_lexical.specs.Strings.{IsByte, IsChar, IsQuoted, IsString}
use Rattle.tok_lexical.specs.declared.contents.Contents.TheVariants.{Bytes, C, Text}
use Rattle.tok_lexical.specs.declared.edition.Edition.{Edition}
use Rattle.tok_lexical.specs.declared.rule.Mode.{Mode}
use Rattle.tok_lexical.specs.declared.rule.Mode.TheVariants.{Source}
use Rattle.tok_lexical.specs.declared.rule.Rule.{Rule}
use Rattle.tok_lexical.specs.declared.rule.Rule.TheVariants.{ByteChar, Decimal, EscapedChar}
use Rattle.tok_lexical.specs.declared.rule.Rule.TheVariants.{PlainChar, QuotedString}
use Rattle.tok_leaves.specs.Literals.{IsOneLiteral}
use Rattle.tok_leaves.specs.Quoting.{bytes_between, in_apostrophes, in_quotes, shown_in_quotes}
use Rattle.tok_values.specs.Floats.{IsFloatSuffix, float_value, without_underscores}
use Rattle.tok_values.specs.Integers.{IsInteger, IsIntegerSuffix, base_of}
use Rattle.tok_values.specs.Strings.{IsByteValue, IsBytesValue, IsCharValue, IsStringValue}
use Rattle.tok_values.specs.RawStrings.{IsRawBytesValue, IsRawStringValue}
use Rattle.tok_values.specs.Suffixed.{IsByteCharacterValue, IsByteStrValue, IsCStrValue}
use Rattle.tok_values.specs.Suffixed.{IsCharacterValue, IsStrValue}
use Rattle.tok_values.specs.Suffixes.{float_suffix, literal_suffix}

-- the value of a string literal that is made of a text is the text
abbrev pub StringsKeepText : Type 0
StringsKeepText =
    (text : List ℕ) → IsUtf8 text → IsStringValue (chars (in_quotes (chars text))) text

-- the whole text is one piece of this rule, and isn't rejected
abbrev pub IsOnePiece : Mode → Rule → List ℕ → Type 0
IsOnePiece mode rule text =
    IsFirstFit text (rules_of mode) rule text []
    × ((at : ℕ) → error_kind rule mode at text [] ≡ None)

-- a string literal that is made of a text is read as one string literal, in every mode
abbrev pub StringsAreRead : Type 0
StringsAreRead =
    (mode : Mode) → (text : List ℕ) → IsUtf8 text →
    IsOnePiece mode (QuotedString Text) (chars (in_quotes (chars text)))

-- the whole text is one character literal
abbrev pub IsOneChar : Mode → List ℕ → Type 0
IsOneChar mode text = IsOnePiece mode PlainChar text ⊎ IsOnePiece mode EscapedChar text

-- A character literal that is made of a character is read as one character literal, in every mode,
-- and its value is the character.
abbrev pub CharactersAreRead : Type 0
CharactersAreRead =
    (mode : Mode) → (c : ℕ) → IsScalar c →
    IsOneChar mode (chars (in_apostrophes c)) × IsCharValue (chars (in_apostrophes c)) c

-- each number is below 256
abbrev pub AreBytes : List ℕ → Type 0
AreBytes [] = Unit {0}
AreBytes (b ∷ bytes) = (b < 256) × AreBytes bytes

-- A byte string literal that is made of bytes is read as one string literal in a source of any
-- edition, and its value is the bytes.
abbrev pub ByteStringsAreRead : Type 0
ByteStringsAreRead =
    (edition : Edition) → (bytes : List ℕ) → AreBytes bytes →
    let text = chars (bytes_between (codes "b\"") bytes (codes "\"")) in
    IsOnePiece (Source edition) (QuotedString Bytes) text × IsBytesValue text bytes

-- A byte literal that is made of a byte is read as one byte literal, in every mode, and its value
-- is the byte.
abbrev pub ByteCharactersAreRead : Type 0
ByteCharactersAreRead =
    (mode : Mode) → (byte : ℕ) → byte < 256 →
    let text = chars (bytes_between (codes "b'") (byte ∷ []) (codes "'")) in
    IsOnePiece mode ByteChar text × IsByteValue text byte

-- A C string literal that is made of bytes other than zero is read as one string literal in a
-- source of an edition that has C strings, and its value is the bytes.
abbrev pub CStringsAreRead : Type 0
CStringsAreRead =
    (edition : Edition) → (bytes : List ℕ) → reserves_prefixes edition ≡ true → AreBytes bytes →
    HasNoNul bytes →
    let text = chars (bytes_between (codes "c\"") bytes (codes "\"")) in
    IsOnePiece (Source edition) (QuotedString C) text × IsCStrValue text bytes

-- The literal of a doc comment's text is read as one string literal, in every mode, and its value
-- is the text.
abbrev pub DocCommentsAreRead : Type 0
DocCommentsAreRead =
    (mode : Mode) → (text : List ℕ) → IsUtf8 text →
    let literal = chars (shown_in_quotes (chars text)) in
    IsOnePiece mode (QuotedString Text) literal × IsStringValue literal text

-- A string by the grammar has a value, with any suffix, if nothing in it is wrong or it is raw.
abbrev pub StringsHaveValues : Type 0
StringsHaveValues =
    (text : List ℕ) →
    (IsString Text text × (is_wrong Text text ≡ false)) ⊎ IsRawString Text text →
    (value : List ℕ) × IsStrValue text value

-- Without a suffix, a string by the grammar in which nothing is wrong has a value as one that isn't
-- raw.
abbrev pub PlainStringsHaveValues : Type 0
PlainStringsHaveValues =
    (text : List ℕ) → IsString Text text → is_wrong Text text ≡ false → literal_suffix text ≡ [] →
    (value : List ℕ) × IsStringValue text value

-- a byte string by the grammar has a value, with any suffix, if nothing in it is wrong or it is raw
abbrev pub ByteStringsHaveValues : Type 0
ByteStringsHaveValues =
    (text : List ℕ) →
    (After lower_b (IsString Bytes) text × (is_wrong Bytes text ≡ false)) ⊎ IsRawString Bytes text →
    (value : List ℕ) × IsByteStrValue text value

-- A C string by the grammar, in which a line feed follows each U+000D, has a value, with any
-- suffix, if and only if nothing in it is wrong.
abbrev pub CStringsHaveValues : Type 0
CStringsHaveValues =
    (text : List ℕ) → After lower_c (IsString C) text → has_bare_return text ≡ false →
    ((value : List ℕ) × IsCStrValue text value) ↔ (is_wrong C text ≡ false)

-- a raw C string by the grammar has a value, with any suffix, if and only if it has no U+0000
abbrev pub RawCStringsHaveValues : Type 0
RawCStringsHaveValues =
    (text : List ℕ) → IsRawString C text →
    ((value : List ℕ) × IsCStrValue text value) ↔ (has_misfit C text ≡ false)

-- a character literal by the grammar has a value, with any suffix
abbrev pub CharactersHaveValues : Type 0
CharactersHaveValues = (text : List ℕ) → IsQuoted IsChar text → (c : ℕ) × IsCharacterValue text c

-- a byte literal by the grammar has a value, with any suffix
abbrev pub BytesHaveValues : Type 0
BytesHaveValues =
    (text : List ℕ) → After lower_b (IsQuoted IsByte) text →
    (byte : ℕ) × IsByteCharacterValue text byte

-- Without a suffix, the value of a string that may have one is that of a string that has none, raw
-- or not.
abbrev pub StringsAgree : Type 0
StringsAgree =
    (text value : List ℕ) → literal_suffix text ≡ [] →
    IsStrValue text value ↔ (IsStringValue text value ⊎ IsRawStringValue text value)

-- without a suffix, the values of byte strings agree likewise
abbrev pub ByteStringsAgree : Type 0
ByteStringsAgree =
    (text value : List ℕ) → literal_suffix text ≡ [] →
    IsByteStrValue text value ↔ (IsBytesValue text value ⊎ IsRawBytesValue text value)

-- If a string, raw or not and with any suffix, has a value without U+0000, then the string with a
-- `c` before it has this value as a C string.
abbrev pub CStringsAgree : Type 0
CStringsAgree =
    (text value : List ℕ) → IsStrValue text value → HasNoNul value →
    IsCStrValue (lower_c ∷ text) value

-- without a suffix, the values of characters agree
abbrev pub CharactersAgree : Type 0
CharactersAgree =
    (text : List ℕ) (c : ℕ) → literal_suffix text ≡ [] →
    IsCharacterValue text c ↔ IsCharValue text c

-- without a suffix, the values of bytes agree
abbrev pub BytesAgree : Type 0
BytesAgree =
    (text : List ℕ) (byte : ℕ) → literal_suffix text ≡ [] →
    IsByteCharacterValue text byte ↔ IsByteValue text byte

-- The digits of a number, with the name of a type or nothing after them, are read as one integer
-- literal, in every mode, and its value is the number, with this suffix.
abbrev pub IntegersAreRead : Type 0
IntegersAreRead =
    (mode : Mode) → (number : ℕ) → number < 2 ^ 128 → (suffix : List ℕ) → IsIntegerSuffix suffix →
    let text = chars (decimal number ++ suffix) in
    IsOnePiece mode Decimal text × IsInteger text number suffix

-- A float without a suffix, or with `f32` or `f64`, has a value: the double nearest to what its
-- digits write, the text before its suffix without underscores.
abbrev pub FloatsHaveTheirValue : Type 0
FloatsHaveTheirValue =
    (bytes : List ℕ) → IsUtf8 bytes → (float : IsFloat (chars bytes)) →
    IsFloatSuffix (float_suffix (chars bytes) float) → (digits : List ℕ) × (value : Float)
    × (bytes ≡ digits ++ float_suffix (chars bytes) float)
    × (parse_float binary64 (without_underscores digits) ≡ Some value)
    × (float_value bytes ≡ Some value)

-- Digits and a dot have a value, and so does a decimal integer that names no base, without a suffix
-- or with `f32` or `f64`. The value is the double nearest to what they write, the text before the
-- suffix without underscores.
abbrev pub DecimalsHaveTheirValue : Type 0
DecimalsHaveTheirValue =
    (bytes : List ℕ) → IsUtf8 bytes → IsPointed (chars bytes) ⊎ IsDecimal (chars bytes) →
    (base_of (chars bytes)).0 ≡ 10 → IsFloatSuffix (literal_suffix (chars bytes)) →
    (digits : List ℕ) × (value : Float) × (bytes ≡ digits ++ literal_suffix (chars bytes))
    × (parse_float binary64 (without_underscores digits) ≡ Some value)
    × (float_value bytes ≡ Some value)

-- A literal that has a value as a float names no base and has no suffix, or `f32` or `f64`. It is a
-- float, digits and a dot, or a decimal integer.
abbrev pub NumbersAloneHaveFloats : Type 0
NumbersAloneHaveFloats =
    (bytes : List ℕ) → IsUtf8 bytes → IsOneLiteral (chars bytes) → (value : Float) →
    float_value bytes ≡ Some value →
    ((base_of (chars bytes)).0 ≡ 10) × IsFloatSuffix (literal_suffix (chars bytes))
    × (IsFloat (chars bytes) ⊎ (IsPointed (chars bytes) ⊎ IsDecimal (chars bytes)))
