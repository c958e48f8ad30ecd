use Rattle.std.proofs.Common.{rules}
use Rattle.tok_core.proofs.Fronts.{none_appended}
use Rattle.syn_derive.proofs.visibility.VisRestricted.write_parens.Goals as goal

pub returns-in_err-to_tokens-clause-err : goal.returns-in_err-to_tokens-clause-err
returns-in_err-to_tokens-clause-err c = none_appended _ _ _ _ _ (search rules)

pub returns-in_err-to_tokens-2-clause-err : goal.returns-in_err-to_tokens-2-clause-err
returns-in_err-to_tokens-2-clause-err c = none_appended _ _ _ _ _ (search rules)

pub returns-clause-err : goal.returns-clause-err
returns-clause-err c = none_appended _ _ _ _ _ c.append.ensures.err
