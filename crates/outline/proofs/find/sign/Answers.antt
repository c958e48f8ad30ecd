use Rattle.outline.proofs.Steps.{passes_along, past_punct}
use Rattle.outline.proofs.find.sign.Goals as goal

pub returns-in-Some : goal.returns-in-Some
returns-in-Some c =
    passes_along c.stays_along.ensures _ _ _
    (past_punct c.reads_go_on.ensures _ _ _ c.in_ok-pound.ensures)
    (past_punct c.reads_go_on.ensures _ _ _ c.in-Some.ensures)

pub returns-in_default : goal.returns-in_default
returns-in_default c = past_punct c.reads_go_on.ensures _ _ _ c.in_ok-pound.ensures
