use Rattle.std.proofs.lemmas.Grind.{common_steps}
use Rattle.std.proofs.Common.{arith}
use Rattle.syn_literals.proofs.Bools.{bool_peeked}
use Rattle.syn_literals.proofs.Told.{bool_seen}
use Rattle.syn_literals.proofs.boolean.LitBoolToken.peek.Goals as goal

pub returns-clause-peeks : goal.returns-clause-peeks
returns-clause-peeks c = grind (arith, common_steps, bool_peeked)

pub returns-clause-sees : goal.returns-clause-sees
returns-clause-sees c = grind (arith, common_steps, bool_seen, bool_peeked)
