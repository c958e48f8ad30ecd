use Rattle.std.proofs.Common.{ap}
use Rattle.std.specs.Prelude.{not}
use Rattle.tok_lexical.proofs.Fronts.{first_parts}
use Rattle.tok_lexical.proofs.comments.breaks_line.Goals as goal

pub returns-in-Some-next_char : goal.returns-in-Some-next_char
returns-in-Some-next_char c =
    let parts = first_parts _ _ _ _ c.past_others.ensures.skips.1 in
    rw (parts.1, c.in-Some.ensures.chars, c.in-Some-next_char.ensures.chars)

pub returns-in-None-next_char : goal.returns-in-None-next_char
returns-in-None-next_char c =
    let parts = first_parts _ _ _ _ c.past_others.ensures.skips.1 in
    rw (parts.1, c.in-Some.ensures.chars, c.in-None-next_char.ensures.chars)
    (ap not c.begins_with.ensures)

pub returns-in-None : goal.returns-in-None
returns-in-None c =
    let parts = first_parts _ _ _ _ c.past_others.ensures.skips.1 in
    rw (parts.1, c.in-None.ensures.chars)
