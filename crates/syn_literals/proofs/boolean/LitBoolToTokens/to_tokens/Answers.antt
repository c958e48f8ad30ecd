use Rattle.std.proofs.lemmas.Grind.{common_steps}
use Rattle.std.proofs.Common.{arith}
use Rattle.tok_core.proofs.Fronts.{none_appended}
use Rattle.syn_literals.proofs.Bools.{bool_identifier, still}
use Rattle.syn_literals.proofs.boolean.LitBoolToTokens.to_tokens.Goals as goal

pub identifier-requires : goal.identifier-requires
identifier-requires c = grind (arith, common_steps, bool_identifier)

pub returns-in_err-ident-clause-err : goal.returns-in_err-ident-clause-err
returns-in_err-ident-clause-err c = grind (arith, common_steps, none_appended, still)

pub returns-clause-err : goal.returns-clause-err
returns-clause-err c = grind (arith, common_steps, none_appended)
