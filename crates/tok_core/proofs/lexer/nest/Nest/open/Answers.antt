use Rattle.std.proofs.Common.{◌∙◌, refl}
use Rattle.tok_core.proofs.Lexical.Nests.{grows_opened}
use Rattle.tok_core.proofs.lexer.nest.Nest.open.Goals as goal

pub returns-in-Ok-clause-ok : goal.returns-in-Ok-clause-ok
returns-in-Ok-clause-ok g c = grows_opened c.args.at _ _ c.args.delimiter
    (λ full. c.if-len-eq-MOST_LEVELS.false
    (c.len.ensures ∙ c.args.self.now.«open».ok.0 ∙ full)) refl
    c.in-Ok.ensures.items c.in_ok-open.ensures.ok
