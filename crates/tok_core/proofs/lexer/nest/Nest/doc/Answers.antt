use Rattle.std.proofs.Common.{◌∙◌, refl}
use Rattle.std.specs.Str.{chars}
use Rattle.tok_core.proofs.Lexical.Nests.{grows_doc}
use Rattle.tok_core.proofs.lexer.nest.Nest.doc.Goals as goal

pub returns-clause-ok : goal.returns-clause-ok
returns-clause-ok g c = grows_doc c.args.at _ _ c.args.end c.args.is_inner
    (chars c.args.text.now) c.source-span.result
    (λ full. c.if-levels-eq-MOST_LEVELS.false
    (c.len-levels.ensures ∙ c.args.self.now.«open».ok.0 ∙ full))
    c.source-span.ensures refl refl c.in_ok-append_doc.ensures
