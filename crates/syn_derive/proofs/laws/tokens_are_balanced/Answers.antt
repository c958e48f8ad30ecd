use Rattle.syn_derive.proofs.RunTokens.{expr_tokens, run_tokens, type_tokens}
use Rattle.syn_derive.specs.declared.run.Until.TheVariants.{Params, Predicates}
use Rattle.syn_derive.proofs.laws.tokens_are_balanced.Goals as goal

pub returns-clause-types : goal.returns-clause-types
returns-clause-types c = type_tokens

pub returns-clause-expressions : goal.returns-clause-expressions
returns-clause-expressions c = expr_tokens

pub returns-clause-parameters : goal.returns-clause-parameters
returns-clause-parameters c = run_tokens Params

pub returns-clause-predicates : goal.returns-clause-predicates
returns-clause-predicates c = run_tokens Predicates
