use Rattle.tok_lexical.specs.declared.delimiter.Delimiter.TheVariants.{Parenthesis}
use Rattle.outline.proofs.Steps.{passes_stays, past_group}
use Rattle.outline.proofs.scan.past_parentheses.Goals as goal

pub returns-in-Some : goal.returns-in-Some
returns-in-Some c =
    passes_stays _ _ (past_group c.entries_go_on.ensures Parenthesis _ _ c.in-Some.ensures)
