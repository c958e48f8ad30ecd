use Rattle.std.proofs.Common.{◌≡◌, ◌∙◌, sym, ap}
use Rattle.tok_core.specs.Erase.{erase}
use Rattle.tok_core.specs.Forest.{Tree, Forest, tree, no_trees}
use Rattle.tok_leaves.specs.Spans.{bounds_delimiter, bounds_span}
use Rattle.tok_core.specs.Seen.{tree_of, group_of}
use Rattle.tok_core.proofs.SameVisible.{group_same, group_content, if_ok_follows}
use Rattle.tok_core.proofs.invisible.+same.Goals as goal

-- the visible trees of one tree
abbrev erased : Tree → Forest
erased t = erase (tree t no_trees)

pub same_tree-returns-then-same_edges : goal.same_tree-returns-then-same_edges
same_tree-returns-then-same_edges t c =
    let l = c.in-Group.left in
    let r = c.in-Group-right.right in
    let left : tree_of c.args.left.now ≡ group_of l = ap tree_of c.in-Group.is in
    let right : tree_of c.args.right.now ≡ group_of r = ap tree_of c.in-Group-right.is in
    let seen_left = rw left at c.requires.left_visible in
    let seen_right = rw right at c.requires.right_visible in
    let edges = (c.same_edges.ensures).0 c.if-same_edges.true in
    if_ok_follows c.same_visible.result (λ b h. (
      λ y. ap erased left
          ∙ group_same (bounds_delimiter l.bounds) (bounds_delimiter r.bounds) l.stream r.stream
          (bounds_span l.bounds) (bounds_span r.bounds) seen_left seen_right edges.0 edges.1
          (ap erase (sym c.stream.ensures) ∙ h.0 y
          ∙ ap erase c.stream-then-same_edges.ensures)
          ∙ sym (ap erased right),
      λ e. h.1 (ap erase c.stream.ensures ∙ group_content (bounds_delimiter l.bounds)
          (bounds_delimiter r.bounds) l.stream r.stream (bounds_span l.bounds)
          (bounds_span r.bounds) seen_left seen_right (sym (ap erased left) ∙ e
          ∙ ap erased right) ∙ sym (ap erase c.stream-then-same_edges.ensures)),
    )) c.same_visible.ensures
