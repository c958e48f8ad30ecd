use Rattle.tok_values.proofs.Suffixed.{no_rest}
use Rattle.tok_values.proofs.between.is_tail.Goals as goal

pub returns-in-Nothing : goal.returns-in-Nothing
returns-in-Nothing c =
    rw c.in-Nothing.is (no_rest _ c.is_empty.result c.utf8.text c.is_empty.ensures)
