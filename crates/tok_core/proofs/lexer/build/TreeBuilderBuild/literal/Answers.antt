use Rattle.std.proofs.Common.{refl}
use Rattle.tok_core.proofs.Cuts.{leaf_order, leaf_one}
use Rattle.tok_leaves.specs.Leaves.{literal_of}
use Rattle.tok_core.proofs.lexer.build.TreeBuilderBuild.literal.Goals as goal

pub invariant_of-self-2 : goal.invariant_of-self-2
invariant_of-self-2 c = leaf_order c.self.inside.starts.items c.self.inside.trees.items
    c.push.new.self.items _ c.self.invariant c.in_ok-push.ensures.items

pub returns-clause-ok : goal.returns-clause-ok
returns-clause-ok c = leaf_one c.self.inside.starts.items c.self.inside.trees.items
    c.push.new.self.items _ (literal_of c.args.literal) c.args.self.now c.self.invariant
    c.in_ok-push.ensures.items c.self.view_is refl
