use Rattle.tok_lexical.proofs.Codes.{line_found, long_line_finds}
use Rattle.tok_lexical.proofs.escapes.past_line_end.Goals as goal

pub returns-in-Some-clause-finds : goal.returns-in-Some-clause-finds
returns-in-Some-clause-finds c = line_found _ _ c.in-Some.ensures.chars

pub returns-in-None-clause-finds : goal.returns-in-None-clause-finds
returns-in-None-clause-finds c = long_line_finds _ _ c.in-None.ensures.chars
    c.past_pair.ensures.chars
