use Rattle.std.proofs.Common.{rules}
use Rattle.tok_core.specs.Seen.{tree_of}
use Rattle.example_callers.specs.Loops.{one_other}
use Rattle.example_callers.proofs.loops.past_sign.Goals as goal

pub returns-then-is_sign-clause-stays : goal.returns-then-is_sign-clause-stays
returns-then-is_sign-clause-stays c =
    c.stays_along.ensures.along _ _ _ c.loop-tree.invariant.1 (search rules)

pub loop-tree-preserved : goal.loop-tree-preserved
loop-tree-preserved c = (
  one_other _ _ _ (tree_of c.in-Some.tree) c.loop-tree.invariant.0 (search rules) (search rules),
  c.stays_along.ensures.along _ _ _ c.loop-tree.invariant.1 (search rules),
)
