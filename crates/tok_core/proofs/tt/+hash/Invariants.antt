use Rattle.std.proofs.Common.{◌≡◌, ◌+◌, drop, fold}
use Rattle.tok_core.specs.Seen.{tree_of, trees_of}
use Rattle.tok_core.specs.Spanless.{forest_input}
use Rattle.tok_core.specs.Weight.{weight, tree_weight}
use Rattle.tok_core.proofs.tt.+hash.Given as goal

abbrev pub decreases-hash_stream : goal.decreases-hash_stream
decreases-hash_stream g l = weight l.stream.now + 1

abbrev pub decreases-hash_tree : goal.decreases-hash_tree
decreases-hash_tree g l = tree_weight (tree_of l.next.now)

abbrev pub invariant-hash_stream-loop-next : goal.invariant-hash_stream-loop-next
invariant-hash_stream-loop-next g l =
    fold g.H.Hasher.write l.state (forest_input (trees_of (drop l.next-index l.next-items)))
    ≡ fold g.H.Hasher.write l.fn.state (forest_input (trees_of l.next-items))
