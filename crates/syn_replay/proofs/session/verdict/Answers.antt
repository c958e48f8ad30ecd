use Rattle.syn_replay.proofs.Walk.Verdict.{verdict_refused}
use Rattle.syn_replay.proofs.session.verdict.Goals as goal
use Rattle.std.proofs.lemmas.Grind.{common_steps}
use Rattle.std.proofs.Common.{arith}

pub returns-in-Err-Refused : goal.returns-in-Err-Refused
returns-in-Err-Refused c =
    grind (arith, common_steps, verdict_refused, c.gathered.ensures, c.finish.ensures)
