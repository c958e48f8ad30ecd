use Rattle.std.proofs.Common.{◌≤◌, rules}
use Rattle.tok_core.specs.Seen.{tree_of}
use Rattle.tok_core.specs.Weight.{weight, tree_weight}
use Rattle.tok_core.proofs.Trees.{weight_here}
use Rattle.workloads.proofs.trees.+values.Goals as goal

pub digest_values-digest_tree_values-requires : goal.digest_values-digest_tree_values-requires
digest_values-digest_tree_values-requires t c =
    let small : tree_weight (tree_of c.tree-item.result) ≤ weight c.args.stream.now =
    weight_here c.trees-tree-items.result.now c.loop-tree.tree-index c.tree-item.result _
    c.trees-tree-items.ensures c.loop-tree-test.true c.tree-item.is in
    search rules
