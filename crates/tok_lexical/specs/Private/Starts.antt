-- What the first two characters of a text say of the rules that may take its front.
use Rattle.std.specs.Prelude.{◌==◌, ◌||◌, ◌&&◌, ◌++◌, if◌then◌else◌, Bool, true, false, ℕ, List, [], ◌∷◌}
use Rattle.std.specs.Char.{is_digit}
use Rattle.tok_lexical.specs.Ascii.{apostrophe, byte_order_mark, digit_zero, lower_b}
use Rattle.tok_lexical.specs.Ascii.{lower_o, lower_r, lower_x, number_sign, quote, slash}
use Rattle.tok_lexical.specs.Characters.{closing_mark, is_punct, is_whitespace, opening_mark}
use Rattle.tok_lexical.specs.Pieces.{after_first, begins_with}
use Rattle.tok_lexical.specs.Rules.{apostrophe_rules, based_rules, decimal_rules, last_rules}
use Rattle.tok_lexical.specs.Rules.{literal_rules}
use Rattle.tok_lexical.specs.Starts.{is_prefix}
use Rattle.tok_lexical.specs.Words.{is_identifier_start}
use Rattle.tok_lexical.specs.declared.contents.Contents.TheVariants.{Text}
use Rattle.tok_lexical.specs.declared.delimiter.Delimiter.TheVariants.{Parenthesis, Brace, Bracket}
use Rattle.tok_lexical.specs.declared.delimiter.Delimiter.TheVariants.{None}
use Rattle.tok_lexical.specs.declared.rule.Rule.{Rule}
use Rattle.tok_lexical.specs.declared.rule.Rule.TheVariants.{ByteOrderMark, Whitespace, LineComment}
use Rattle.tok_lexical.specs.declared.rule.Rule.TheVariants.{BlockComment, OpenComment, QuotedString}
use Rattle.tok_lexical.specs.declared.rule.Rule.TheVariants.{BadString, RawIdentifier, Other}
use Rattle.tok_lexical.specs.declared.rule.Rule.TheVariants as rule
use Rattle.tok_lexical.specs.declared.start.Start.{Start}
use Rattle.tok_lexical.specs.declared.start.Start.TheVariants as start

-- the byte order mark, « and »
abbrev pub is_mark : ℕ → Bool
is_mark c = (c == byte_order_mark) || ((c == opening_mark None) || (c == closing_mark None))

-- what a text that begins with this character may begin with
abbrev pub start_of : ℕ → Start
start_of c =
    if is_mark c then start.Rest
    else if is_whitespace c then start.Whitespace
    else if c == digit_zero then start.Zero
    else if is_digit c 10 then start.Digit
    else if is_prefix c then start.Prefix
    else if c == slash then start.Slash
    else if c == quote then start.Quote
    else if c == apostrophe then start.Apostrophe
    else if c == opening_mark Parenthesis then start.Opening Parenthesis
    else if c == closing_mark Parenthesis then start.Closing Parenthesis
    else if c == opening_mark Bracket then start.Opening Bracket
    else if c == closing_mark Bracket then start.Closing Bracket
    else if c == opening_mark Brace then start.Opening Brace
    else if c == closing_mark Brace then start.Closing Brace
    else if is_identifier_start c then start.Letter
    else if is_punct c then start.Punct
    else start.Rest

-- the character tells the rule alone
abbrev pub tells : Start → Bool
tells start.Letter = true
tells start.Punct = true
tells (start.Opening delimiter) = true
tells (start.Closing delimiter) = true
tells start = false

-- the rules that may take a text that begins so, in their order
abbrev pub beginning : Start → List Rule
beginning start.Rest =
    ByteOrderMark ∷ Whitespace ∷ rule.Opening None ∷ rule.Closing None ∷ last_rules
beginning start.Whitespace = Whitespace ∷ last_rules
beginning start.Zero = based_rules ++ (decimal_rules ++ last_rules)
beginning start.Digit = decimal_rules ++ last_rules
beginning start.Prefix = literal_rules ++ RawIdentifier ∷ last_rules
beginning start.Letter = last_rules
beginning start.Slash = LineComment ∷ BlockComment ∷ OpenComment ∷ last_rules
beginning start.Quote = QuotedString Text ∷ BadString ∷ last_rules
beginning start.Apostrophe = apostrophe_rules ++ last_rules
beginning (start.Opening delimiter) = rule.Opening delimiter ∷ last_rules
beginning (start.Closing delimiter) = rule.Closing delimiter ∷ last_rules
beginning start.Punct = rule.Punct ∷ Other ∷ []

-- after a zero: the letter of a base
abbrev pub names_base : List ℕ → Bool
names_base rest = begins_with lower_x rest || (begins_with lower_o rest || begins_with lower_b rest)

-- a quote, or a number sign before one
abbrev pub opens_string : List ℕ → Bool
opens_string rest = begins_with quote rest || begins_with number_sign rest

-- after `b`, `c` or `r`: what may make them more than an identifier
abbrev pub opens_literal : List ℕ → Bool
opens_literal rest =
    begins_with apostrophe rest
    || (opens_string rest || (begins_with lower_r rest && opens_string (after_first rest)))
