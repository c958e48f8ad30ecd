use Rattle.std.proofs.Common.{◌∙◌, sym}
use Rattle.tok_lexical.proofs.EscapedChars.{finds_simple, finds_hex, finds_code, finds_line}
use Rattle.tok_lexical.proofs.escapes.past_escape.Goals as goal

pub returns-then-is_simple_escape-clause-finds : goal.returns-then-is_simple_escape-clause-finds
returns-then-is_simple_escape-clause-finds c = finds_simple c.args.line_ends c.args.wide _ _
    c.in_ok-kind.kind c.in_ok-kind.ensures.chars (sym c.is_simple_escape.ensures
    ∙ c.if-is_simple_escape.true)

pub returns-then-kind-eq120-clause-finds : goal.returns-then-kind-eq120-clause-finds
returns-then-kind-eq120-clause-finds c = finds_hex c.args.line_ends c.args.wide _ _
    c.in_ok-kind.kind c.in_ok-kind.ensures.chars _ _ c.top_digit.ensures.value
    (sym c.is_simple_escape.ensures ∙ c.if-is_simple_escape.false) c.if-kind-eq120.true
    c.past_hex.ensures.finds

pub returns-else-wide-clause-finds : goal.returns-else-wide-clause-finds
returns-else-wide-clause-finds c = finds_code c.args.line_ends c.args.wide _ _ c.in_ok-kind.kind
    c.in_ok-kind.ensures.chars _ c.if-wide.false (sym c.is_simple_escape.ensures
    ∙ c.if-is_simple_escape.false) c.if-kind-eq117.true c.past_code.ensures.finds

pub returns-then-line_ends-clause-finds : goal.returns-then-line_ends-clause-finds
returns-then-line_ends-clause-finds c = finds_line c.args.line_ends c.args.wide _ _
    c.in_ok-kind.kind c.in_ok-kind.ensures.chars _ c.if-line_ends.true
    (sym c.is_simple_escape.ensures ∙ c.if-is_simple_escape.false) c.if-kind-eq120.false
    c.if-kind-eq117.false c.past_line_end.ensures.finds
