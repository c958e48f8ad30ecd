use Rattle.std.proofs.lemmas.Grind.{common_steps}
use Rattle.std.proofs.Common.{◌≡◌, ◌≤◌, ◌&&◌, true, sym, rules, arith}
use Rattle.tok_core.specs.Clear.{is_invisible_group}
use Rattle.tok_core.specs.Seen.{tree_of}
use Rattle.tok_core.specs.Weight.{weight, tree_weight}
use Rattle.tok_core.proofs.Clears.{clear_edge}
use Rattle.tok_core.proofs.Trees.{trees_of_drop, weight_here}
use Rattle.tok_core.proofs.invisible.+clear.Goals as goal

pub is_clear-is_tree_clear-requires : goal.is_clear-is_tree_clear-requires
is_clear-is_tree_clear-requires t c =
    let small : tree_weight (tree_of c.next-item.result) ≤ weight c.args.stream.now =
    weight_here c.trees-next-items.result.now c.loop-next.next-index c.next-item.result _
    c.trees-next-items.ensures c.loop-next-test.true c.next-item.is in
    search rules

pub is_clear-returns-then-is_invisible_group : goal.is_clear-returns-then-is_invisible_group
is_clear-returns-then-is_invisible_group t c =
    let here = trees_of_drop c.trees-next-items.result.now c.loop-next.next-index
    c.next-item.result c.loop-next-test.true c.next-item.is in
    let edge : (c.loop-next.joint && is_invisible_group (tree_of c.next-item.result)) ≡ true =
    search rules in
    rw (← c.trees-next-items.ensures, ← c.loop-next.invariant, here)
    (sym (clear_edge c.loop-next.joint (tree_of c.next-item.result) _ edge))

pub is_clear-returns-then-not-is_tree_clear : goal.is_clear-returns-then-not-is_tree_clear
is_clear-returns-then-not-is_tree_clear t c = grind (arith, common_steps)

pub is_clear-loop-next-preserved : goal.is_clear-loop-next-preserved
is_clear-loop-next-preserved t c = grind (arith, common_steps)
