use Rattle.tok_lexical.specs.declared.delimiter.Delimiter.TheVariants.{Brace}
use Rattle.outline.proofs.Steps.{passes_along, passes_on, past_group, past_ident}
use Rattle.outline.proofs.scan.past_definition.Goals as goal

pub returns : goal.returns
returns c =
    passes_along c.stays_along.ensures _ _ _
    (passes_on c.stays_along.ensures _ _ _
    (past_ident c.reads_go_on.ensures _ _ _ c.in_ok-after.ensures) c.past_parentheses-rules.ensures)
    (past_group c.entries_go_on.ensures Brace _ _ c.in_ok-defined.ensures)
