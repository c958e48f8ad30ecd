use Rattle.std.proofs.Common.{refl}
use Rattle.tok_core.proofs.Lexical.Nests.{grows_ident}
use Rattle.tok_core.proofs.lexer.nest.Nest.ident.Goals as goal

pub returns : goal.returns
returns g c = λ at. grows_ident at _ _ refl refl _ c.in_ok-ident.ensures.ok c.source-span.result
    c.args.start c.args.end _ c.args.text.now c.unchecked_ident.ensures c.in_ok-text.ensures
    c.utf8.text
    c.source-span.ensures
