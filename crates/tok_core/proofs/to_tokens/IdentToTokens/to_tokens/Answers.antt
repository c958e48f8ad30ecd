use Rattle.std.proofs.Common.{rules}
use Rattle.tok_core.proofs.Fronts.{none_appended}
use Rattle.tok_core.proofs.to_tokens.IdentToTokens.to_tokens.Goals as goal

pub returns-in_err-clone-clause-err : goal.returns-in_err-clone-clause-err
returns-in_err-clone-clause-err c = none_appended _ _ _ _ _ (search rules)

pub returns-clause-err : goal.returns-clause-err
returns-clause-err c = none_appended _ _ _ _ _ c.append.ensures.err
