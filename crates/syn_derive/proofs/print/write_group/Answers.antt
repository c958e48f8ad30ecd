use Rattle.std.proofs.Common.{rules}
use Rattle.tok_core.proofs.Fronts.{none_appended}
use Rattle.syn_derive.proofs.print.write_group.Goals as goal

pub returns-in_err-inside-clause-err : goal.returns-in_err-inside-clause-err
returns-in_err-inside-clause-err g c = none_appended _ _ _ _ _ (search rules)

pub returns-clause-err : goal.returns-clause-err
returns-clause-err g c = none_appended _ _ _ _ _ c.append.ensures.err
