use Rattle.tok_core.proofs.Fronts.{none_appended}
use Rattle.tok_core.proofs.to_tokens.PunctToTokens.to_tokens.Goals as goal

pub returns-clause-err : goal.returns-clause-err
returns-clause-err c = none_appended _ _ _ _ _ c.append.ensures.err
