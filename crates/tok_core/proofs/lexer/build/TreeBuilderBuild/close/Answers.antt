use Rattle.std.proofs.Common.{◌∙◌, ap}
use Rattle.tok_core.specs.Seen.{trees_of}
use Rattle.tok_core.proofs.Cuts.{close_order, close_one}
use Rattle.tok_core.proofs.lexer.build.TreeBuilderBuild.close.Goals as goal

pub invariant_of-self : goal.invariant_of-self
invariant_of-self c = close_order c.self.inside.starts.items c.pop.new.self.items
    c.self.inside.trees.items c.take_level.new.trees.items c.push_reserved.new.self.items
    c.in-Some.start _ c.in-Some.ensures.items c.self.invariant
    c.in-Ok.ensures.kept c.push_reserved.ensures.items

pub returns-in-Ok-clause-ok : goal.returns-in-Ok-clause-ok
returns-in-Ok-clause-ok c = close_one c.self.inside.starts.items c.pop.new.self.items
    c.self.inside.trees.items c.take_level.new.trees.items c.push_reserved.new.self.items
    c.in-Some.start _ c.args.delimiter c.of_trees-inside.result c.args.span c.args.self.now
    c.in-Some.ensures.items c.self.invariant
    c.in-Ok.ensures.kept c.push_reserved.ensures.items
    c.self.view_is (c.of_trees-inside.ensures ∙ ap trees_of c.in-Ok.ensures.taken)
    c.new-group.ensures
