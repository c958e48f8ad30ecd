-- How the spelling of a rule begins.
use Rattle.std.proofs.Common.{rules, tests, ◌≡◌, ◌∙◌, ◌++◌, refl, ℕ, ◌<◌, inl, inr, List, [], ◌∷◌}
use Rattle.std.proofs.Common.{length, ap, arith}
use Rattle.std.proofs.lemmas.Bool.{false≢true, eqb-true}
use Rattle.std.specs.Prelude.{◌==◌, Bool, true, false}
use Rattle.tok_lexical.specs.Pieces.{HasPrefix, IsOne}
use Rattle.tok_lexical.specs.Private.Starts.{start_of}
use Rattle.tok_lexical.specs.Rules.{Spells}
use Rattle.tok_lexical.specs.declared.rule.Rule.{Rule}
use Rattle.tok_lexical.specs.declared.rule.Rule.TheVariants.{ByteOrderMark, Whitespace, LineComment}
use Rattle.tok_lexical.specs.declared.rule.Rule.TheVariants.{BlockComment, OpenComment, Opening}
use Rattle.tok_lexical.specs.declared.rule.Rule.TheVariants.{Closing, QuotedString, BadString}
use Rattle.tok_lexical.specs.declared.rule.Rule.TheVariants.{ByteChar, BadByteChar, StringPrefix}
use Rattle.tok_lexical.specs.declared.rule.Rule.TheVariants.{RawString, BadPrefixed, EscapedChar}
use Rattle.tok_lexical.specs.declared.rule.Rule.TheVariants.{BadEscapedChar, PlainChar, Lifetime}
use Rattle.tok_lexical.specs.declared.rule.Rule.TheVariants.{PlainLifetime, Apostrophe, Based}
use Rattle.tok_lexical.specs.declared.rule.Rule.TheVariants.{BadBased, Float, PointedDecimal}
use Rattle.tok_lexical.specs.declared.rule.Rule.TheVariants.{Decimal, RawIdentifier, Identifier}
use Rattle.tok_lexical.specs.declared.rule.Rule.TheVariants.{Punct, Other}
use Rattle.tok_lexical.specs.declared.contents.Contents.TheVariants.{Text, Bytes, C}
use Rattle.tok_lexical.specs.Numbers.{IsRun, starts_digit}
use Rattle.tok_lexical.specs.declared.start.Start.{Start}
use Rattle.tok_lexical.specs.declared.start.Start.TheVariants as start
use Rattle.tok_lexical.specs.declared.delimiter.Delimiter.{Delimiter}
use Rattle.tok_lexical.specs.declared.delimiter.Delimiter.TheVariants as delimiter
use Rattle.tok_lexical.specs.Characters.{opening_mark, closing_mark}

-- whether a piece of the rule may begin so, as far as it goes with pieces that no earlier rule
-- takes
abbrev pub may_begin : Rule → Start → Bool
may_begin ByteOrderMark start.Rest = true
may_begin Whitespace start.Rest = true
may_begin Whitespace start.Whitespace = true
may_begin LineComment start.Slash = true
may_begin BlockComment start.Slash = true
may_begin OpenComment start.Slash = true
may_begin (Opening delimiter.None) start.Rest = true
may_begin (Opening delimiter.None) (start.Opening delimiter.None) = true
may_begin (Opening delimiter.Parenthesis) (start.Opening delimiter.Parenthesis) = true
may_begin (Opening delimiter.Brace) (start.Opening delimiter.Brace) = true
may_begin (Opening delimiter.Bracket) (start.Opening delimiter.Bracket) = true
may_begin (Closing delimiter.None) start.Rest = true
may_begin (Closing delimiter.None) (start.Closing delimiter.None) = true
may_begin (Closing delimiter.Parenthesis) (start.Closing delimiter.Parenthesis) = true
may_begin (Closing delimiter.Brace) (start.Closing delimiter.Brace) = true
may_begin (Closing delimiter.Bracket) (start.Closing delimiter.Bracket) = true
may_begin (QuotedString Text) start.Quote = true
may_begin (QuotedString Bytes) start.Prefix = true
may_begin (QuotedString C) start.Prefix = true
may_begin BadString start.Quote = true
may_begin ByteChar start.Prefix = true
may_begin BadByteChar start.Prefix = true
may_begin StringPrefix start.Prefix = true
may_begin (RawString contents) start.Prefix = true
may_begin (BadPrefixed contents) start.Prefix = true
may_begin EscapedChar start.Apostrophe = true
may_begin BadEscapedChar start.Apostrophe = true
may_begin PlainChar start.Apostrophe = true
may_begin Lifetime start.Apostrophe = true
may_begin PlainLifetime start.Apostrophe = true
may_begin Apostrophe start.Apostrophe = true
may_begin (Based base) start.Zero = true
may_begin (BadBased base) start.Zero = true
may_begin Float start.Zero = true
may_begin Float start.Digit = true
may_begin PointedDecimal start.Zero = true
may_begin PointedDecimal start.Digit = true
may_begin Decimal start.Zero = true
may_begin Decimal start.Digit = true
may_begin RawIdentifier start.Prefix = true
may_begin Identifier start.Punct = false
may_begin Identifier k = true
may_begin Punct k = true
may_begin Other k = true
may_begin rule k = false

-- the piece has a first character, whose start passes
abbrev pub HasHead : (Start → Bool) → List ℕ → Type 0
HasHead p piece = (c : ℕ) × (tail : List ℕ) × (piece ≡ c ∷ tail) × (p (start_of c) ≡ true)

the_one : {k : ℕ} {piece : List ℕ} → IsOne (λ c. c == k) piece → piece ≡ k ∷ []
the_one {k} (c, pass, e) = e ∙ ap (λ w. w ∷ []) (eqb-true c k pass)

digits_head : (p : Start → Bool) (Tail : List ℕ → Type 0) (piece : List ℕ) → p start.Zero ≡ true →
    p start.Digit ≡ true → IsRun 10 starts_digit Tail piece → HasHead p piece
digits_head p Tail piece zero other ([], tail, e, all, good, s) = absurd (false≢true good)
digits_head p Tail piece zero other (c ∷ digits, tail, e, all, good, s) =
    (c, _, e, search (rules, tests))

mark_opens : (d : Delimiter) → may_begin (Opening d) (start_of (opening_mark d)) ≡ true
mark_opens d = grind arith

mark_closes : (d : Delimiter) → may_begin (Closing d) (start_of (closing_mark d)) ≡ true
mark_closes d = grind arith

pub spelled_head : (rule : Rule) (piece : List ℕ) → Spells rule piece →
    HasHead (may_begin rule) piece
spelled_head ByteOrderMark piece s = (0xFEFF, [], the_one s, refl)
spelled_head Whitespace piece (c, pass, e) = (c, [], e, search (rules, tests))
spelled_head LineComment piece (body, e, a) = (47, _, e, refl)
spelled_head BlockComment piece (body, e, a) = (47, _, e, refl)
spelled_head OpenComment piece e = (47, _, e, refl)
spelled_head (Opening d) piece s = (opening_mark d, [], the_one s, mark_opens d)
spelled_head (Closing d) piece s = (closing_mark d, [], the_one s, mark_closes d)
spelled_head BadString piece s = (34, [], the_one s, refl)
spelled_head ByteChar piece (more, e, s) = (98, _, e, refl)
spelled_head BadByteChar piece e = (98, _, e, refl)
spelled_head StringPrefix piece (inl (more, e, s)) = (114, _, e, refl)
spelled_head StringPrefix piece (inr (inl (more, e, s))) = (98, _, e, refl)
spelled_head StringPrefix piece (inr (inr (more, e, s))) = (99, _, e, refl)
spelled_head (QuotedString Text) piece (body, suffix, e, u, k) = (34, _, e, refl)
spelled_head (QuotedString Bytes) piece (more, e, s) = (98, _, e, refl)
spelled_head (QuotedString C) piece (more, e, s) = (99, _, e, refl)
spelled_head (RawString Text) piece (more, e, s) = (114, _, e, refl)
spelled_head (RawString Bytes) piece (more, e, s) = (98, _, e, refl)
spelled_head (RawString C) piece (more, e, s) = (99, _, e, refl)
spelled_head (BadPrefixed Text) piece (more, e, s) = (114, _, e, refl)
spelled_head (BadPrefixed Bytes) piece (more, e, s) = (98, _, e, refl)
spelled_head (BadPrefixed C) piece (more, e, s) = (99, _, e, refl)
spelled_head EscapedChar piece (inner, suffix, e, h, k) = (39, _, e, refl)
spelled_head BadEscapedChar piece e = (39, _, e, refl)
spelled_head PlainChar piece (inner, suffix, e, h, k) = (39, _, e, refl)
spelled_head Lifetime piece (more, e, s) = (39, _, e, refl)
spelled_head PlainLifetime piece (more, e, s) = (39, _, e, refl)
spelled_head Apostrophe piece s = (39, [], the_one s, refl)
spelled_head (Based base) piece (more, e, s) = (48, _, e, refl)
spelled_head (BadBased base) piece e = (48, _, e, refl)
spelled_head Decimal piece s = digits_head (may_begin Decimal) _ piece refl refl s
spelled_head Float piece s = digits_head (may_begin Float) _ piece refl refl s
spelled_head PointedDecimal piece s = digits_head (may_begin PointedDecimal) _ piece refl refl s
spelled_head RawIdentifier piece (more, e, s) = (114, _, e, refl)
spelled_head Identifier [] s = absurd s
spelled_head Identifier (c ∷ tail) (pass, all) = (c, tail, refl, search (rules, tests))
spelled_head Punct piece (c, pass, e) = (c, [], e, refl)
spelled_head Other piece (c, pass, e) = (c, [], e, refl)

-- a piece has a character
pub spelled_one : (rule : Rule) (piece : List ℕ) → Spells rule piece → 0 < length piece
spelled_one rule piece s = rw (spelled_head rule piece s).2 (omega arith)

-- a text of which a piece is the front begins as the piece does
pub begins : (rule : Rule) (c : ℕ) (text : List ℕ) → HasPrefix (Spells rule) (c ∷ text) →
    may_begin rule (start_of c) ≡ true
begins rule c text (piece, after, cut, s) =
    let head = spelled_head rule piece s in
    let whole : c ∷ text ≡ head.0 ∷ (head.1 ++ after) = cut ∙ ap (λ w. w ++ after) head.2 in
    let same : c ≡ head.0 = cc in
    ap (λ x. may_begin rule (start_of x)) same ∙ head.3
