use Rattle.std.proofs.Common.{◌≡◌, ◌+◌}
use Rattle.tok_core.specs.Seen.{tree_of, trees_of}
use Rattle.tok_core.specs.Weight.{weight, tree_weight}
use Rattle.syn_replay.proofs.Comparing.{Undecided}
use Rattle.syn_replay.proofs.agreement.same.+same.Given as goal

abbrev pub decreases-same_streams : goal.decreases-same_streams
decreases-same_streams l = weight l.left.now + 1

abbrev pub decreases-same_tree : goal.decreases-same_tree
decreases-same_tree l = tree_weight (tree_of l.left.now)

abbrev pub invariant-same_streams-loop-i : goal.invariant-same_streams-loop-i
invariant-same_streams-loop-i l = Undecided (λ xs ys. trees_of xs ≡ trees_of ys) l.i l.ours l.theirs
