use Rattle.tok_lexical.proofs.EscapedChars.{finds_c_code, finds_c_other}
use Rattle.tok_lexical.proofs.escapes.past_c_escape.Goals as goal

pub returns-in-Some-clause-finds : goal.returns-in-Some-clause-finds
returns-in-Some-clause-finds c = finds_c_code _ _ _ c.in-Some.ensures.chars
    c.past_code.ensures.finds

pub returns-in-None-clause-finds : goal.returns-in-None-clause-finds
returns-in-None-clause-finds c = finds_c_other _ _ c.in-None.ensures.chars
    c.past_escape.ensures.finds
