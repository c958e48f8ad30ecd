use Rattle.std.proofs.Common.{refl}
use Rattle.tok_core.proofs.Lexical.Nests.{grows_literal}
use Rattle.tok_core.proofs.lexer.nest.Nest.literal.Goals as goal

pub returns : goal.returns
returns g c = grows_literal c.args.start _ _ refl refl _ c.in_ok-literal.ensures.ok
    c.source-span.result c.args.start c.args.end _ c.args.text.now c.unchecked_literal.ensures
    c.in_ok-text.ensures c.utf8.text c.source-span.ensures
