use Rattle.tok_core.proofs.Trees.{weight_here}
use Rattle.syn_replay.proofs.Agreements.{compares_trees, of_streams}
use Rattle.syn_replay.proofs.Comparing.{not_as_many}
use Rattle.syn_replay.proofs.agreement.same.+same.Goals as goal
use Rattle.std.proofs.lemmas.Grind.{common_steps}
use Rattle.std.proofs.Common.{arith}

pub same_streams-returns-then-ours-theirs : goal.same_streams-returns-then-ours-theirs
same_streams-returns-then-ours-theirs t c =
    grind (arith, common_steps, of_streams, not_as_many, compares_trees)

pub same_streams-same_tree-requires : goal.same_streams-same_tree-requires
same_streams-same_tree-requires t c = grind (arith, common_steps, weight_here)
