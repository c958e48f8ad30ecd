-- Which texts are one literal (Rust Reference: Tokens, Literals), and why a text is none.
use Rattle.std.specs.Prelude.{◌≡◌, ℕ, List, [], ◌||◌, Bool, true, false, None, codes, if◌then◌else◌}
use Rattle.tok_lexical.specs.Ascii.{minus, plus}
use Rattle.tok_lexical.specs.Errors.{error_kind}
use Rattle.tok_lexical.specs.Fits.{IsFirstFit}
use Rattle.tok_lexical.specs.Pieces.{begins_with}
use Rattle.tok_lexical.specs.Rules.{rules_of}
use Rattle.tok_lexical.specs.declared.edition.Edition.TheVariants.{Edition2024}
use Rattle.tok_lexical.specs.declared.rule.Mode.TheVariants.{Source}
use Rattle.tok_lexical.specs.declared.rule.Rule.{Rule}
use Rattle.tok_lexical.specs.declared.rule.Rule.TheVariants.{QuotedString, RawString, ByteChar}
use Rattle.tok_lexical.specs.declared.rule.Rule.TheVariants.{EscapedChar, PlainChar, Based, Float}
use Rattle.tok_lexical.specs.declared.rule.Rule.TheVariants.{PointedDecimal, Decimal}
use Rattle.tok_leaves.specs.declared.literal_fault.LiteralFault.{LiteralFault}
use Rattle.tok_leaves.specs.declared.literal_fault.LiteralFault.TheVariants.{Sign, NotLiteral}
use Rattle.tok_leaves.specs.declared.literal_fault.LiteralFault.TheVariants.{Memory}

-- a rule that takes an integer or a float
abbrev pub is_number_rule : Rule → Bool
is_number_rule (Based base) = true
is_number_rule Float = true
is_number_rule PointedDecimal = true
is_number_rule Decimal = true
is_number_rule rule = false

-- a rule that takes a string, a character or a byte literal
abbrev pub is_quoted_rule : Rule → Bool
is_quoted_rule (QuotedString contents) = true
is_quoted_rule (RawString contents) = true
is_quoted_rule ByteChar = true
is_quoted_rule EscapedChar = true
is_quoted_rule PlainChar = true
is_quoted_rule rule = false

-- the rules that take literals
abbrev pub is_literal_rule : Rule → Bool
is_literal_rule rule = is_number_rule rule || is_quoted_rule rule

-- one of these rules takes all of the text, as in a source of the latest edition, and does not
-- reject it
abbrev pub IsOneLiteral : List ℕ → Type 0
IsOneLiteral text =
    (rule : Rule) × (is_literal_rule rule ≡ true)
    × IsFirstFit text (rules_of (Source Edition2024)) rule text []
    × (error_kind rule (Source Edition2024) 0 text [] ≡ None)

-- the text begins with `-` or `+`
abbrev pub begins_with_sign : List ℕ → Bool
begins_with_sign text = begins_with minus text || begins_with plus text

-- why a text is not one literal: it begins with a sign, or it has any other form
abbrev pub literal_fault : List ℕ → LiteralFault
literal_fault text = if begins_with_sign text then Sign else NotLiteral

-- the words of each reason
abbrev pub literal_fault_words : LiteralFault → List ℕ
literal_fault_words Sign = codes "begins with a sign, which is a punct of its own"
literal_fault_words NotLiteral = codes "not exactly one literal"
literal_fault_words Memory = codes "out of memory"
