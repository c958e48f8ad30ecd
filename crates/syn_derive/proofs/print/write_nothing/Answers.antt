use Rattle.std.proofs.Common.{sym}
use Rattle.tok_core.proofs.Facts.{concat-none}
use Rattle.syn_derive.proofs.print.write_nothing.Goals as goal

pub returns-clause-ok : goal.returns-clause-ok
returns-clause-ok c = sym (concat-none c.args.tokens.now)
