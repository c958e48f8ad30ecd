use Rattle.std.proofs.lemmas.Grind.{common_steps}
use Rattle.std.proofs.Common.{arith}
use Rattle.syn_literals.proofs.KindReads.{kind_wanted, no_kind}
use Rattle.syn_literals.proofs.kind.peek_kind.Goals as goal

pub returns-in-Some : goal.returns-in-Some
returns-in-Some g c = grind (arith, common_steps, kind_wanted)

pub returns-in-None : goal.returns-in-None
returns-in-None g c = grind (arith, common_steps, no_kind)
