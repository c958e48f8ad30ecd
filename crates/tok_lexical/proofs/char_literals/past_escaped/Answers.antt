use Rattle.tok_lexical.specs.Strings.{IsEscape}
use Rattle.std.proofs.Common.{false}
use Rattle.tok_lexical.proofs.Longest.{finds_after}
use Rattle.tok_lexical.proofs.char_literals.past_escaped.Goals as goal

pub returns-clause-finds : goal.returns-clause-finds
returns-clause-finds c = finds_after 92 (IsEscape false false) _ _ _ c.in_ok-rest.ensures.chars
    c.past_escape.ensures.finds
