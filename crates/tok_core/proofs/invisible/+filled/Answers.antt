use Rattle.std.proofs.Common.{◌≡◌, ◌≤◌, ap, sym, ◌∙◌, not, true, rules}
use Rattle.tok_core.specs.Filled.{filled, has_trees}
use Rattle.tok_lexical.specs.declared.delimiter.Delimiter.TheVariants.{None}
use Rattle.tok_core.specs.Forest.{group, no_trees, tree}
use Rattle.tok_leaves.specs.Spans.{bounds_delimiter, bounds_span}
use Rattle.tok_core.specs.Seen.{tree_of}
use Rattle.tok_core.specs.Weight.{weight, tree_weight}
use Rattle.tok_core.proofs.Facts.{filled_invisible, filled_stops}
use Rattle.tok_core.proofs.Trees.{trees_of_drop, weight_here}
use Rattle.tok_core.proofs.invisible.+filled.Goals as goal

pub is_filled-is_tree_filled-requires : goal.is_filled-is_tree_filled-requires
is_filled-is_tree_filled-requires t c =
    let small : tree_weight (tree_of c.next-item.result) ≤ weight c.args.stream.now =
    weight_here c.trees-next-items.result.now c.loop-next.next-index c.next-item.result _
    c.trees-next-items.ensures c.loop-next-test.true c.next-item.is in
    search rules

pub is_filled-returns-then-not-is_tree_filled : goal.is_filled-returns-then-not-is_tree_filled
is_filled-returns-then-not-is_tree_filled t c =
    let here = trees_of_drop c.trees-next-items.result.now c.loop-next.next-index
    c.next-item.result c.loop-next-test.true c.next-item.is in
    sym (ap filled (sym c.trees-next-items.ensures) ∙ sym c.loop-next.invariant ∙ ap filled here
    ∙ filled_stops (tree_of c.next-item.result) _ (sym c.is_tree_filled.ensures
    ∙ c.if-not-is_tree_filled.true))

pub is_tree_filled-returns-then-not-is_empty : goal.is_tree_filled-returns-then-not-is_empty
is_tree_filled-returns-then-not-is_empty t c =
    let g = c.in-Group.group in
    let invisible : (bounds_delimiter g.bounds) ≡ None = sym c.delimiter.ensures ∙ c.in-None.is in
    let seen : has_trees g.stream ≡ true = ap has_trees (sym c.stream.ensures)
    ∙ c.is_empty.ensures ∙ ap not c.if-not-is_empty.true in
    c.is_filled.ensures ∙ ap filled c.stream-then-not-is_empty.ensures
    ∙ filled_invisible g.stream (bounds_span g.bounds) seen
    ∙ ap (λ d. filled (tree (group d g.stream (bounds_span g.bounds)) no_trees)) (sym invisible)
    ∙ ap (λ u. filled (tree (tree_of u) no_trees)) (sym c.in-Group.is)
