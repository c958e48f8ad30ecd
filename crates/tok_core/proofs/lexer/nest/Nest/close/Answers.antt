use Rattle.std.proofs.Common.{◌≡◌, ap, refl, rules, arith}
use Rattle.tok_core.proofs.Lexical.Nests.{grows_closed, reached_pop}
use Rattle.tok_core.proofs.lexer.nest.Nest.close.Goals as goal

pub source-span-requires : goal.source-span-requires
source-span-requires g c =
    let before = (reached_pop c.pop.new.self.items (c.in-Some.opened, c.in-Some.start) c.args.at
    (rw c.in-Some.ensures.items at c.requires.reached)).1 in
    omega (arith, before, c.requires.order)

pub returns-clause-ok : goal.returns-clause-ok
returns-clause-ok g c =
    let same : c.in-Some.opened ≡ c.args.delimiter = search rules in
    grows_closed c.args.at _ _ c.args.delimiter c.in-Some.start c.args.end
    (c.in-Some.opened, c.in-Some.start) c.source-span.result
    (ap (λ d. (d, c.in-Some.start)) same) refl c.in-Some.ensures.items c.source-span.ensures
    c.in_ok-close.ensures.ok
