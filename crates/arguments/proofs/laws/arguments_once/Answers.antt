use Rattle.arguments.proofs.Outcomes.{one_list}
use Rattle.arguments.proofs.laws.arguments_once.Goals as goal

pub returns : goal.returns
returns c = one_list
