use Rattle.std.proofs.lemmas.Grind.{common_steps}
use Rattle.std.proofs.Common.{arith}
use Rattle.tok_lexical.proofs.text.past_rare_run.Goals as goal

pub returns-else-begins_run-clause-skips : goal.returns-else-begins_run-clause-skips
returns-else-begins_run-clause-skips g c = grind (arith, common_steps)
