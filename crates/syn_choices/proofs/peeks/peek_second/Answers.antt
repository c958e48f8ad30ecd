use Rattle.std.proofs.lemmas.Grind.{common_steps}
use Rattle.std.proofs.Common.{arith, rules}
use Rattle.tok_buffer.specs.Cursors.{place_of}
use Rattle.syn_parse.proofs.Skips.{none_next, seen_next}
use Rattle.syn_choices.proofs.peeks.peek_second.Goals as goal

pub returns-in-Some-clause-sees : goal.returns-in-Some-clause-sees
returns-in-Some-clause-sees g c = grind (arith, common_steps, seen_next)

pub returns-in-None-clause-sees : goal.returns-in-None-clause-sees
returns-in-None-clause-sees g c = none_next g.T.Token.sees (place_of c.args.cursor) (search rules)
