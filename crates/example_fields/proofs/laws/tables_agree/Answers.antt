use Rattle.example_fields.proofs.Reading.{tables_agree}
use Rattle.example_fields.proofs.laws.tables_agree.Goals as goal

pub returns : goal.returns
returns c = tables_agree
