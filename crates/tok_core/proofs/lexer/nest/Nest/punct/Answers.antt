use Rattle.std.proofs.Common.{refl}
use Rattle.tok_core.proofs.Lexical.Nests.{grows_punct}
use Rattle.tok_core.proofs.lexer.nest.Nest.punct.Goals as goal

pub returns : goal.returns
returns g c = λ from. grows_punct from _ _ refl refl _ c.in_ok-punct.ensures.ok
    c.source-span.result c.args.at c.args.ch c.args.is_joint c.spacing.result
    c.unchecked_punct-punct.ensures c.spacing.ensures c.source-span.ensures
