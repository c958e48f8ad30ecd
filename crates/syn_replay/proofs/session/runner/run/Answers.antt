use Rattle.std.proofs.Common.{refl}
use Rattle.syn_replay.proofs.Walk.Received.{leads_on, leads_to_lines, leads_to_state}
use Rattle.syn_replay.proofs.session.runner.run.Goals as goal
use Rattle.std.proofs.lemmas.Grind.{common_steps}
use Rattle.std.proofs.Common.{arith}

pub loop-command-init : goal.loop-command-init
loop-command-init g c = record { state = refl; lines = λ last all. all }

pub loop-command-preserved : goal.loop-command-preserved
loop-command-preserved g c = grind (arith, common_steps, leads_on)

pub returns-clause-state : goal.returns-clause-state
returns-clause-state g c = grind (arith, common_steps, leads_to_state)

pub returns-clause-lines : goal.returns-clause-lines
returns-clause-lines g c = grind (arith, common_steps, leads_to_lines)
