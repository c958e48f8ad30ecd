-- The rules of the grammar in their order, what each spells, and which a mode has (Rust Reference:
-- Tokens; Whitespace; Comments).
use Rattle.std.specs.Prelude.{◌≡◌, ℕ, List, [], ◌∷◌, ◌++◌, Bool, true, false, not, ◌==◌, filter}
use Rattle.tok_lexical.specs.Ascii.{apostrophe, backslash, byte_order_mark, digit_zero, lower_b}
use Rattle.tok_lexical.specs.Ascii.{lower_c, quote, slash, star}
use Rattle.tok_lexical.specs.Characters.{is_whitespace, is_punct, opening_mark, closing_mark}
use Rattle.tok_lexical.specs.Editions.{reserves_prefixes}
use Rattle.tok_lexical.specs.Words.{IsIdentifier, IsRawIdentifier, IsName}
use Rattle.tok_lexical.specs.Comments.{IsLineComment, IsBlockComment}
use Rattle.tok_lexical.specs.Strings.{IsString, IsQuoted, IsByte, IsEscapedChar, is_char}
use Rattle.tok_lexical.specs.Strings.{IsPrefixOf, IsStringPrefix}
use Rattle.tok_lexical.specs.Raw.{IsRawString}
use Rattle.tok_lexical.specs.Floats.{IsFloat, IsPointed}
use Rattle.tok_lexical.specs.Numbers.{IsBased, IsDecimal, base_mark}
use Rattle.tok_lexical.specs.Pieces.{IsOne, After}
use Rattle.tok_lexical.specs.declared.delimiter.Delimiter.TheVariants.{Parenthesis, Brace, Bracket}
use Rattle.tok_lexical.specs.declared.delimiter.Delimiter.TheVariants.{None}
use Rattle.tok_lexical.specs.declared.numbers.Base.TheVariants.{Hexadecimal, Octal, Binary}
use Rattle.tok_lexical.specs.declared.rule.Mode.{Mode}
use Rattle.tok_lexical.specs.declared.rule.Mode.TheVariants.{Marked, Source}
use Rattle.tok_lexical.specs.declared.rule.Rule.{Rule}
use Rattle.tok_lexical.specs.declared.rule.Rule.TheVariants.{ByteOrderMark, Whitespace}
use Rattle.tok_lexical.specs.declared.rule.Rule.TheVariants.{LineComment, BlockComment}
use Rattle.tok_lexical.specs.declared.rule.Rule.TheVariants.{OpenComment, Opening, Closing}
use Rattle.tok_lexical.specs.declared.rule.Rule.TheVariants.{QuotedString, BadString, ByteChar}
use Rattle.tok_lexical.specs.declared.rule.Rule.TheVariants.{BadByteChar, StringPrefix}
use Rattle.tok_lexical.specs.declared.rule.Rule.TheVariants.{RawString, BadPrefixed}
use Rattle.tok_lexical.specs.declared.rule.Rule.TheVariants.{EscapedChar, BadEscapedChar}
use Rattle.tok_lexical.specs.declared.rule.Rule.TheVariants.{PlainChar, Lifetime, PlainLifetime}
use Rattle.tok_lexical.specs.declared.rule.Rule.TheVariants.{Apostrophe, Based, BadBased, Float}
use Rattle.tok_lexical.specs.declared.rule.Rule.TheVariants.{PointedDecimal, Decimal}
use Rattle.tok_lexical.specs.declared.rule.Rule.TheVariants.{RawIdentifier, Identifier}
use Rattle.tok_lexical.specs.declared.rule.Rule.TheVariants.{Punct, Other}
use Rattle.tok_lexical.specs.declared.contents.Contents.TheVariants.{Text, Bytes, C}

-- The whole piece is spelled by the rule. After a rule comes one that takes what begins so and
-- isn't spelled to its end.
abbrev pub Spells : Rule → List ℕ → Type 0
Spells ByteOrderMark = IsOne (λ c. c == byte_order_mark)
Spells Whitespace = IsOne is_whitespace
Spells LineComment = IsLineComment
Spells BlockComment = IsBlockComment
Spells OpenComment = λ piece. piece ≡ slash ∷ star ∷ []
Spells (Opening delimiter) = IsOne (λ c. c == opening_mark delimiter)
Spells (Closing delimiter) = IsOne (λ c. c == closing_mark delimiter)
Spells (QuotedString Text) = IsString Text
Spells (QuotedString Bytes) = After lower_b (IsString Bytes)
Spells (QuotedString C) = After lower_c (IsString C)
Spells BadString = IsOne (λ c. c == quote)
Spells ByteChar = After lower_b (IsQuoted IsByte)
Spells BadByteChar = λ piece. piece ≡ lower_b ∷ apostrophe ∷ []
Spells StringPrefix = IsStringPrefix
Spells (RawString contents) = IsRawString contents
Spells (BadPrefixed contents) = IsPrefixOf contents
Spells EscapedChar = IsQuoted IsEscapedChar
Spells BadEscapedChar = λ piece. piece ≡ apostrophe ∷ backslash ∷ []
Spells PlainChar = IsQuoted (IsOne is_char)
Spells Lifetime = After apostrophe IsName
Spells PlainLifetime = After apostrophe IsIdentifier
Spells Apostrophe = IsOne (λ c. c == apostrophe)
Spells (Based base) = IsBased base
Spells (BadBased base) = λ piece. piece ≡ digit_zero ∷ base_mark base ∷ []
Spells Float = IsFloat
Spells PointedDecimal = IsPointed
Spells Decimal = IsDecimal
Spells RawIdentifier = IsRawIdentifier
Spells Identifier = IsIdentifier
Spells Punct = IsOne is_punct
Spells Other = IsOne (λ c. true)

-- the rules of literals with a prefix
abbrev pub literal_rules : List Rule
literal_rules =
    ByteChar ∷ BadByteChar ∷ StringPrefix ∷ QuotedString Bytes ∷ RawString Text ∷ RawString Bytes
    ∷ BadPrefixed Text ∷ BadPrefixed Bytes ∷ QuotedString C ∷ RawString C ∷ BadPrefixed C ∷ []

-- the rules of what an apostrophe begins
abbrev pub apostrophe_rules : List Rule
apostrophe_rules =
    EscapedChar ∷ BadEscapedChar ∷ PlainChar ∷ Lifetime ∷ PlainLifetime ∷ Apostrophe ∷ []

-- the rules of integers with a base
abbrev pub based_rules : List Rule
based_rules =
    Based Hexadecimal ∷ Based Octal ∷ Based Binary
    ∷ BadBased Hexadecimal ∷ BadBased Octal ∷ BadBased Binary ∷ []

-- the rules of decimals
abbrev pub decimal_rules : List Rule
decimal_rules = Float ∷ PointedDecimal ∷ Decimal ∷ []

-- the last three rules: of them, one takes any character
abbrev pub last_rules : List Rule
last_rules = Identifier ∷ Punct ∷ Other ∷ []

-- every rule, in the order in which they are tried
unfoldable pub all_rules : List Rule
all_rules =
    ByteOrderMark ∷ Whitespace ∷ LineComment ∷ BlockComment ∷ OpenComment
    ∷ Opening Parenthesis ∷ Opening Brace ∷ Opening Bracket
    ∷ Closing Parenthesis ∷ Closing Brace ∷ Closing Bracket ∷ Opening None ∷ Closing None
    ∷ QuotedString Text ∷ BadString ∷ (literal_rules ++ (apostrophe_rules ++ (based_rules
    ++ (decimal_rules ++ RawIdentifier ∷ last_rules))))

-- the mode of texts in which « and » mark invisible groups
abbrev pub is_marked : Mode → Bool
is_marked Marked = true
is_marked mode = false

-- the mode of whole sources, of any edition
abbrev pub is_source : Mode → Bool
is_source (Source edition) = true
is_source mode = false

-- C strings exist in sources from the edition of 2021 on
abbrev pub has_c_strings : Mode → Bool
has_c_strings (Source edition) = reserves_prefixes edition
has_c_strings mode = false

-- raw lifetimes exist, but in sources before the edition of 2021
abbrev pub has_raw_lifetimes : Mode → Bool
has_raw_lifetimes (Source edition) = reserves_prefixes edition
has_raw_lifetimes mode = true

-- The mode has the rule. Invisible groups are of marked texts; floats, and byte, C and raw strings
-- are of sources, and elsewhere one rule takes how such a string begins.
abbrev pub is_in : Mode → Rule → Bool
is_in mode (Opening None) = is_marked mode
is_in mode (Closing None) = is_marked mode
is_in mode StringPrefix = not (is_source mode)
is_in mode (QuotedString Bytes) = is_source mode
is_in mode (QuotedString C) = has_c_strings mode
is_in mode (RawString C) = has_c_strings mode
is_in mode (RawString contents) = is_source mode
is_in mode (BadPrefixed C) = has_c_strings mode
is_in mode (BadPrefixed contents) = is_source mode
is_in mode Lifetime = has_raw_lifetimes mode
is_in mode PlainLifetime = not (has_raw_lifetimes mode)
is_in mode Float = is_source mode
is_in mode PointedDecimal = is_source mode
is_in mode rule = true

-- those of these rules that the mode has
abbrev pub among : Mode → List Rule → List Rule
among mode rules = filter (is_in mode) rules

-- the rules of a mode, in their order
abbrev pub rules_of : Mode → List Rule
rules_of mode = among mode all_rules
