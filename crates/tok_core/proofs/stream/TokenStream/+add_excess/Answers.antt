use Rattle.std.proofs.Common.{rules, ap, drop, ◌+◌}
use Rattle.tok_core.specs.Forest.{tree}
use Rattle.tok_core.specs.Seen.{tree_of, trees_of}
use Rattle.tok_core.specs.Private.Excess.{excess}
use Rattle.tok_core.proofs.Trees.{trees_of_drop}
use Rattle.tok_core.proofs.Weights.{weight_counted}
use Rattle.tok_core.proofs.stream.TokenStream.+add_excess.Goals as goal
use Rattle.tok_core.proofs.stream.TokenStream.+add_excess.Goals.{in-Group, in_default}

pub loop-next-preserved : goal.loop-next-preserved
loop-next-preserved t c =
    let items = c.deref-next-items.result.now in
    let rest = trees_of (drop (c.loop-next.next-index + 1) items) in
    let here = ap excess (trees_of_drop items c.loop-next.next-index c.next-item.result
    c.loop-next-test.true c.next-item.is) in
    elim c.match-next.branch [
      | in-Group w ↦
          let counted = weight_counted w.inside.inside.trees.items in
          let group = ap (λ u. excess (tree (tree_of u) rest)) w.in-Group.is in
          search (rules, here, counted, group)
      | in_default w ↦ search rules
    ]
