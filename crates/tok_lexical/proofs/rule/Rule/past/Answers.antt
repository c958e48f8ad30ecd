use Rattle.std.proofs.Common.{◌∙◌, ◌==◌, sym, refl, true, eq-eqb}
use Rattle.tok_lexical.specs.Characters.{is_whitespace, is_punct, opening_mark, closing_mark}
use Rattle.tok_lexical.proofs.Longest.{one_read, tries_pair, tries_two}
use Rattle.tok_lexical.proofs.rule.Rule.past.Goals as goal

pub returns-in-ByteOrderMark-clause-tries : goal.returns-in-ByteOrderMark-clause-tries
returns-in-ByteOrderMark-clause-tries c =
    rw c.in-ByteOrderMark.is (one_read (λ d. d == 0xFEFF) c.in_ok-first.ensures.chars
    (eq-eqb _ _ c.if-first-eq65279.true))

pub returns-in-Whitespace-clause-tries : goal.returns-in-Whitespace-clause-tries
returns-in-Whitespace-clause-tries c =
    rw c.in-Whitespace.is (one_read is_whitespace c.in_ok-first.ensures.chars
    (sym c.is_whitespace.ensures ∙ c.if-is_whitespace.true))

pub returns-in-Opening-clause-tries : goal.returns-in-Opening-clause-tries
returns-in-Opening-clause-tries c =
    rw c.in-Opening.is
    (one_read (λ d. d == opening_mark c.in-Opening.delimiter) c.in_ok-first.ensures.chars
    (eq-eqb _ _ (c.if-first-opening_mark.true ∙ c.opening_mark.ensures)))

pub returns-in-Closing-clause-tries : goal.returns-in-Closing-clause-tries
returns-in-Closing-clause-tries c =
    rw c.in-Closing.is
    (one_read (λ d. d == closing_mark c.in-Closing.delimiter) c.in_ok-first.ensures.chars
    (eq-eqb _ _ (c.if-first-closing_mark.true ∙ c.closing_mark.ensures)))

pub returns-in-BadString-clause-tries : goal.returns-in-BadString-clause-tries
returns-in-BadString-clause-tries c =
    rw c.in-BadString.is (one_read (λ d. d == 34) c.in_ok-first.ensures.chars
    (eq-eqb _ _ c.if-first-eq34.true))

pub returns-in-Apostrophe-clause-tries : goal.returns-in-Apostrophe-clause-tries
returns-in-Apostrophe-clause-tries c =
    rw c.in-Apostrophe.is (one_read (λ d. d == 39) c.in_ok-first.ensures.chars
    (eq-eqb _ _ c.if-first-eq39.true))

pub returns-in-Punct-clause-tries : goal.returns-in-Punct-clause-tries
returns-in-Punct-clause-tries c =
    rw c.in-Punct.is (one_read is_punct c.in_ok-first.ensures.chars
    (sym c.is_punct.ensures ∙ c.if-is_punct.true))

pub returns-in-Other-clause-tries : goal.returns-in-Other-clause-tries
returns-in-Other-clause-tries c =
    rw c.in-Other.is (one_read (λ d. true) c.in_ok-first.ensures.chars refl)

pub returns-in-OpenComment-clause-tries : goal.returns-in-OpenComment-clause-tries
returns-in-OpenComment-clause-tries c =
    rw c.in-OpenComment.is (tries_pair 47 42 _ _ c.past_pair.ensures.chars)

pub returns-in-BadByteChar-clause-tries : goal.returns-in-BadByteChar-clause-tries
returns-in-BadByteChar-clause-tries c =
    rw c.in-BadByteChar.is (tries_pair 98 39 _ _ c.past_pair-in-BadByteChar.ensures.chars)

pub returns-in-BadEscapedChar-clause-tries : goal.returns-in-BadEscapedChar-clause-tries
returns-in-BadEscapedChar-clause-tries c =
    rw c.in-BadEscapedChar.is (tries_pair 39 92 _ _ c.past_pair-in-BadEscapedChar.ensures.chars)

pub returns-in-Based-clause-tries : goal.returns-in-Based-clause-tries
returns-in-Based-clause-tries c = rw c.in-Based.is c.past_based.ensures.tries

pub returns-in-BadBased-clause-tries : goal.returns-in-BadBased-clause-tries
returns-in-BadBased-clause-tries c =
    rw c.in-BadBased.is
    (tries_two 48 _ _ _ _ c.mark.ensures c.past_pair-in-BadBased.ensures.chars)
