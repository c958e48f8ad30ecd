use Rattle.std.proofs.lemmas.Grind.{common_steps}
use Rattle.std.proofs.Common.{arith}
use Rattle.syn_choices.proofs.Attempts.{attempt_takes}
use Rattle.syn_choices.proofs.ext.ParseBufferParseBufferExt.attempt_with.Goals as goal

pub returns-clause-takes : goal.returns-clause-takes
returns-clause-takes g c value each = grind (arith, common_steps, attempt_takes)
