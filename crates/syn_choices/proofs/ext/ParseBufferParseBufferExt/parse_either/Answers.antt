use Rattle.std.proofs.lemmas.Grind.{common_steps}
use Rattle.std.proofs.Common.{arith}
use Rattle.syn_choices.proofs.Choices.{left_fails, left_found, right_fails, right_found}
use Rattle.syn_choices.proofs.ext.ParseBufferParseBufferExt.parse_either.Goals as goal
use Rattle.syn_parse.proofs.Returned.{error_keeps}

pub returns-in_err-left-clause-takes : goal.returns-in_err-left-clause-takes
returns-in_err-left-clause-takes g c = grind (arith, common_steps, error_keeps, left_fails)

pub returns-in_ok-left-clause-takes : goal.returns-in_ok-left-clause-takes
returns-in_ok-left-clause-takes g c = grind (arith, common_steps, left_found)

pub returns-in_err-right-clause-takes : goal.returns-in_err-right-clause-takes
returns-in_err-right-clause-takes g c = grind (arith, common_steps, error_keeps, right_fails)

pub returns-in_ok-right-clause-takes : goal.returns-in_ok-right-clause-takes
returns-in_ok-right-clause-takes g c = grind (arith, common_steps, right_found)
