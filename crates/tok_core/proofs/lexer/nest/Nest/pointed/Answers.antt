use Rattle.std.proofs.lemmas.Grind.{common_steps}
use Rattle.std.proofs.Common.{arith}
use Rattle.std.specs.Str.{chars}
use Rattle.tok_core.proofs.Lexical.Nests.{digits_in_front}
use Rattle.tok_core.proofs.lexer.nest.Nest.pointed.Goals as goal

pub returns-in_ok-literal : goal.returns-in_ok-literal
returns-in_ok-literal g c = grind (arith, common_steps)

pub returns-in_ok-punct : goal.returns-in_ok-punct
returns-in_ok-punct g c = grind (arith, common_steps)

pub literal-requires-else-is_float-clause-front :
    goal.literal-requires-else-is_float-clause-front
literal-requires-else-is_float-clause-front g c = digits_in_front 46 (chars c.args.piece.text.now)
    (chars c.args.piece.after.now) _ (chars c.up_to-digits.result.now) c.requires.front
    c.up_to-digits.ensures
