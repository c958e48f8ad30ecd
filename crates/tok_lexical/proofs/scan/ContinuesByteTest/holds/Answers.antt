use Rattle.std.proofs.lemmas.Grind.{common_steps}
use Rattle.std.proofs.Common.{arith}
use Rattle.tok_lexical.proofs.Tables.{continues_ascii}
use Rattle.tok_lexical.proofs.scan.ContinuesByteTest.holds.Goals as goal

pub returns-then-byte-lt128 : goal.returns-then-byte-lt128
returns-then-byte-lt128 c = continues_ascii c.args.byte c.if-byte-lt128.true

pub returns-else-byte-lt128 : goal.returns-else-byte-lt128
returns-else-byte-lt128 c = grind (arith, common_steps)
