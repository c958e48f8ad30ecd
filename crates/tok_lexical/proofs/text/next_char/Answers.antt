use Rattle.tok_lexical.proofs.Longest.{chars_next, shorter_next}
use Rattle.tok_lexical.proofs.text.next_char.Goals as goal

pub returns-clause-chars : goal.returns-clause-chars
returns-clause-chars c = chars_next _ _ _ _ _ c.utf8.text c.chars-rest.ensures.rest
    c.in_ok-first.ensures.steps.0 c.as_str.ensures

pub returns-clause-shorter : goal.returns-clause-shorter
returns-clause-shorter c = shorter_next _ _ _ _ c.in_ok-first.first c.chars-rest.ensures.rest
    c.in_ok-first.ensures.steps.0 c.as_str.ensures
