use Rattle.arguments.proofs.Outcomes.{parses, says, value_is}
use Rattle.arguments.proofs.read.parse_arguments.Goals as goal

pub returns-clause-value : goal.returns-clause-value
returns-clause-value c = value_is c.args.tokens _ c.parse_whole.ensures.value

pub returns-clause-parses : goal.returns-clause-parses
returns-clause-parses c i = parses c.args.tokens _ (c.parse_whole.ensures.keeps i)

pub returns-clause-says : goal.returns-clause-says
returns-clause-says c i = says c.args.tokens _ i (c.parse_whole.ensures.keeps i)
