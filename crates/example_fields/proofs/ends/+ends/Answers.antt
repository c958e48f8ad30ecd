use Rattle.std.proofs.Common.{◌≡◌, ◌≤◌, ◌∙◌, ap, sym, rules, drop, ◌+◌}
use Rattle.tok_lexical.specs.declared.delimiter.Delimiter.TheVariants.{None as Invisible}
use Rattle.tok_leaves.specs.Spans.{bounds_delimiter, bounds_span}
use Rattle.tok_core.proofs.Trees.{trees_of_drop, weight_here}
use Rattle.tok_core.specs.Erase.{erase}
use Rattle.tok_core.specs.Forest.{group, no_trees, tree}
use Rattle.tok_core.specs.Seen.{tree_of, trees_of}
use Rattle.tok_core.specs.Weight.{tree_weight, weight}
use Rattle.example_fields.specs.Ends.{ends_after}
use Rattle.example_fields.proofs.Visible.{ends_inside, ends_tree}
use Rattle.example_fields.proofs.ends.+ends.Goals as goal

pub ends_after-ends_of_tree-ends-requires : goal.ends_after-ends_of_tree-ends-requires
ends_after-ends_of_tree-ends-requires t c =
    let small : tree_weight (tree_of c.next-item.result) ≤ weight c.args.tokens.now =
    weight_here c.trees-next-items.result.now c.loop-next.next-index c.next-item.result _
    c.trees-next-items.ensures c.loop-next-test.true c.next-item.is in
    search rules

pub ends_after-loop-next-preserved : goal.ends_after-loop-next-preserved
ends_after-loop-next-preserved t c =
    let rest = trees_of (drop (c.loop-next.next-index + 1) c.trees-next-items.result.now) in
    let here = trees_of_drop c.trees-next-items.result.now c.loop-next.next-index
    c.next-item.result c.loop-next-test.true c.next-item.is in
    ap (λ e. ends_after e (erase rest)) c.ends_of_tree-ends.ensures
    ∙ ends_tree c.loop-next.ends (tree_of c.next-item.result) rest
    ∙ ap (λ f. ends_after c.loop-next.ends (erase f)) (sym here) ∙ c.loop-next.invariant

pub ends_of_tree-returns-in-None : goal.ends_of_tree-returns-in-None
ends_of_tree-returns-in-None t c =
    let g = c.in-Group.group in
    let invisible : bounds_delimiter g.bounds ≡ Invisible =
    sym c.delimiter.ensures ∙ c.in-None.is in
    c.ends_after.ensures ∙ ap (λ f. ends_after c.args.ends (erase f)) c.stream.ensures
    ∙ ends_inside c.args.ends g.stream (bounds_span g.bounds)
    ∙ ap (λ d. ends_after c.args.ends
    (erase (tree (group d g.stream (bounds_span g.bounds)) no_trees))) (sym invisible)
    ∙ ap (λ u. ends_after c.args.ends (erase (tree (tree_of u) no_trees))) (sym c.in-Group.is)
