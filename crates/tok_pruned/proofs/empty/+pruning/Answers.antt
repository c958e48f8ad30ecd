use Rattle.std.proofs.Common.{◌≡◌, rules, arith, ap, sym, ◌∙◌}
use Rattle.std.specs.Vec.Iter.{into_iter_items}
use Rattle.tok_core.specs.Forest.{group, no_trees, tree}
use Rattle.tok_core.specs.Seen.{group_of, tree_of, trees_of}
use Rattle.tok_core.specs.Weight.{weight}
use Rattle.tok_pruned.specs.Pruned.{pruned}
use Rattle.tok_pruned.proofs.Streams.{all_pruned, goes_off, none_left, stays_on, step_pruned}
use Rattle.tok_pruned.proofs.empty.+pruning.Goals as goal

pub prune_level-loop-next-preserved : goal.prune_level-loop-next-preserved
prune_level-loop-next-preserved t c =
    let u = tree_of c.in-Some.next in
    let after = trees_of (into_iter_items c.next.new.self) in
    let before = trees_of (into_iter_items c.loop-next.next-iterator) in
    let q : before ≡ tree u after = ap trees_of c.in-Some.ensures.steps.0 in (
      tt,
      tt,
      step_pruned c.loop-next.kept c.prune_tree.new.kept before after (pruned c.args.stream) u
          (search rules) c.loop-next.invariant.2 q,
      omega (arith, ap weight q, c.loop-next.invariant.3),
    )

pub prune_level-returns : goal.prune_level-returns
prune_level-returns t c =
    let left = trees_of (into_iter_items c.loop-next.next-iterator) in
    let done : left ≡ no_trees =
    none_left (into_iter_items c.loop-next.next-iterator)
    (sym c.loop-next.next-iterator.rest.ok.0 ∙ c.in-None.ensures.steps.0) in
    all_pruned c.loop-next.kept left (pruned c.args.stream) done c.loop-next.invariant.2

pub prune_tree-returns-in_ok-append-in-Group : goal.prune_tree-returns-in_ok-append-in-Group
prune_tree-returns-in_ok-append-in-Group t c =
    let g = c.in-Group.group in
    let d = c.delimiter-delimiter.result in
    let s = c.span-span.result in
    let f = c.into_stream.result in
    let inside = c.in_ok-inside-in-Group.inside in
    let made : group_of c.new.result ≡ group d inside s = search rules in
    let was : tree_of c.args.next ≡ group d f s = grind arith in
    stays_on c.args.kept.now c.append-then-stays.new.self inside f (tree_of c.args.next)
    (group_of c.new.result) d s (search rules) made (search rules) was (search rules)

pub prune_tree-returns-else-stays : goal.prune_tree-returns-else-stays
prune_tree-returns-else-stays t c = grind (arith, goes_off)
