use Rattle.tok_core.proofs.Lexical.Nests.{grows_lifetime}
use Rattle.tok_core.proofs.lexer.nest.Nest.lifetime.Goals as goal

pub returns : goal.returns
returns g c = grows_lifetime c.args.at _ _ _ c.args.end _ (c.in_ok-punct.ensures c.args.at)
    (c.in_ok-ident.ensures c.args.at)
