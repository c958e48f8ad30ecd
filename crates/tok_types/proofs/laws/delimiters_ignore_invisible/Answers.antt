use Rattle.tok_types.specs.Delimiters.{delimiter_at}
use Rattle.tok_types.proofs.Seen.{is_visible}
use Rattle.tok_types.proofs.Views.{finds-group}
use Rattle.tok_types.proofs.laws.delimiters_ignore_invisible.Goals as goal

pub returns : goal.returns
returns g c = finds-group (delimiter_at g.row.D) (is_visible g.row.D)
