use Rattle.std.proofs.Common.{rules, arith}
use Rattle.tok_types.proofs.Numbers.{found_at, not_found}
use Rattle.tok_types.proofs.texts.number_among.Goals as goal

pub returns-then-eq : goal.returns-then-eq
returns-then-eq c = grind (arith, found_at)

pub returns : goal.returns
returns c = search (rules, not_found)
