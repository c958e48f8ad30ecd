use Rattle.std.proofs.lemmas.Grind.{common_steps}
use Rattle.std.proofs.Common.{subst, arith}
use Rattle.std.specs.Str.{chars}
use Rattle.tok_lexical.specs.Sources.{Begins}
use Rattle.tok_lexical.proofs.Sources.{source_cut}
use Rattle.tok_lexical.proofs.source.past_start.Goals as goal

pub returns-clause-begins : goal.returns-clause-begins
returns-clause-begins c = grind (arith, common_steps)

pub returns-clause-cut : goal.returns-clause-cut
returns-clause-cut c = source_cut (chars c.args.text.now) (chars c.past_shebang.result.now)
    (subst (λ w. Begins w (chars c.past_shebang.result.now)) c.past_mark.ensures
    c.past_shebang.ensures)
