use Rattle.std.proofs.Common.{◌≤◌, rules}
use Rattle.tok_core.specs.Seen.{tree_of}
use Rattle.tok_core.specs.Weight.{weight, tree_weight}
use Rattle.tok_core.proofs.Trees.{weight_here}
use Rattle.vectors_sources.proofs.show.+lines.Goals as goal

pub push_stream-push_tree-requires : goal.push_stream-push_tree-requires
push_stream-push_tree-requires t c =
    let small : tree_weight (tree_of c.next-item.result) ≤ weight c.args.stream.now =
    weight_here c.trees-next-items.result.now c.loop-next.next-index c.next-item.result _
    c.trees-next-items.ensures c.loop-next-test.true c.next-item.is in
    search rules
