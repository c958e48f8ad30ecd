use Rattle.std.proofs.Common.{◌≤◌, sym, rules}
use Rattle.tok_core.specs.Seen.{tree_of}
use Rattle.tok_core.specs.Weight.{weight, tree_weight}
use Rattle.tok_core.proofs.Comparisons.{alike_lengths}
use Rattle.tok_core.proofs.Trees.{weight_here}
use Rattle.tok_core.proofs.tt.+alike.Goals as goal

pub are_alike-returns-then-ours-theirs : goal.are_alike-returns-then-ours-theirs
are_alike-returns-then-ours-theirs t c =
    rw (← c.trees-ours.ensures, ← c.trees-theirs.ensures)
    (sym (alike_lengths c.trees-ours.result.now c.trees-theirs.result.now (search rules)))

pub are_alike-is_alike-requires : goal.are_alike-is_alike-requires
are_alike-is_alike-requires t c =
    let small : tree_weight (tree_of c.index-ours-i.result) ≤ weight c.args.left.now =
    weight_here c.trees-ours.result.now c.loop-i.i c.index-ours-i.result _
    c.trees-ours.ensures c.loop-i-test.true c.index-ours-i.is in
    search rules
