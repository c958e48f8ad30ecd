use Rattle.std.proofs.Common.{inl, rules}
use Rattle.replay_program.proofs.Once.{prints_only}
use Rattle.replay_program.proofs.respond.Goals as goal

pub returns-in-Ok-clause-prints : goal.returns-in-Ok-clause-prints
returns-in-Ok-clause-prints c = inl c.in-Ok.ensures

pub returns-in-Ok-clause-only : goal.returns-in-Ok-clause-only
returns-in-Ok-clause-only c = prints_only _ _ _ (inl c.in-Ok.ensures)

pub returns-in_ok-format-in-Err-Unreadable-clause-only :
    goal.returns-in_ok-format-in-Err-Unreadable-clause-only
returns-in_ok-format-in-Err-Unreadable-clause-only c = prints_only _ _ _ (search rules)
