use Rattle.outline.proofs.Steps.{passes_along, passes_on, past_any, past_punct}
use Rattle.outline.proofs.scan.past_call.Goals as goal

pub returns : goal.returns
returns c =
    passes_along c.stays_along.ensures _ _ _
    (passes_on c.stays_along.ensures _ _ _
    (past_punct c.reads_go_on.ensures _ _ _ c.in_ok-after.ensures) c.past_name-named.ensures)
    (past_any c.entries_go_on.ensures _ _ c.in_ok-called.ensures)
