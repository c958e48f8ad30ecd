use Rattle.tok_lexical.specs.declared.delimiter.Delimiter.TheVariants.{Bracket}
use Rattle.outline.proofs.Steps.{passes_along, past_group}
use Rattle.outline.proofs.find.attribute.Goals as goal

pub returns : goal.returns
returns c =
    passes_along c.stays_along.ensures _ _ _ c.in_ok-style.ensures
    (past_group c.entries_go_on.ensures Bracket _ _ c.in_ok-contents.ensures)
