use Rattle.std.proofs.lemmas.Grind.{common_steps}
use Rattle.std.proofs.Common.{arith}
use Rattle.syn_choices.proofs.Turns.{no_more}
use Rattle.syn_choices.proofs.ext.next_turn.Goals as goal

pub returns : goal.returns
returns c = grind (arith, common_steps, no_more)
