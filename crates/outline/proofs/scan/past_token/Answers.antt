use Rattle.outline.proofs.Steps.{passes_on, past_ident}
use Rattle.outline.proofs.scan.past_token.Goals as goal

pub returns-in-Some-ident : goal.returns-in-Some-ident
returns-in-Some-ident c =
    passes_on c.stays_along.ensures _ _ _
    (past_ident c.reads_go_on.ensures _ _ _ c.in-Some-ident.ensures) c.past_macro.ensures
