use Rattle.std.proofs.Common.{◌∙◌, refl, arith}
use Rattle.tok_core.specs.Forest.{leaf}
use Rattle.tok_core.specs.Seen.{tree_of}
use Rattle.tok_core.specs.declared.stream.TokenTree.TheVariants as made
use Rattle.tok_core.proofs.Facts.{concat-none}
use Rattle.tok_buffer.specs.Private.Layout.{leaf_in}
use Rattle.tok_buffer.proofs.BetweenAt.{taken_done, taken_front, taken_group, taken_open}
use Rattle.tok_buffer.proofs.Rests.{tree_copied}
use Rattle.tok_buffer.proofs.cursor.rest.copy_up_to.Goals as goal

pub loop-ahead-preserved-in-Leaf : goal.loop-ahead-preserved-in-Leaf
loop-ahead-preserved-in-Leaf c =
    let i = c.loop-ahead.invariant in
    let e = c.in-Leaf.ensures in
    let l = leaf (leaf_in c.in-Leaf.leaf) in
    let taken = taken_front c.args.end c.loop-ahead.ahead c.in-Leaf.after 1 l e.0 e.1
    (omega (arith, c.loop-ahead-test.true)) in
    record {
      scope = e.1.scope ∙ i.scope;
      same = tree_copied _ _ _ _ l l (c.in_ok-append_to-in-Leaf.ensures {u = tt}).ok refl taken
          ∙ i.same;
    }

pub loop-ahead-preserved-then-group-end : goal.loop-ahead-preserved-then-group-end
loop-ahead-preserved-then-group-end c =
    let i = c.loop-ahead.invariant in
    let g = c.in-Group.group in
    let f = c.in-Group.ensures in
    record {
      scope = f.after.scope ∙ i.scope;
      same = tree_copied _ _ _ _ _ (tree_of (made.Group c.new-copied.result))
          c.in_ok-append-in-Group.ensures.ok
          (rw (c.new-copied.ensures, c.in_ok-content-in-Group.ensures))
          (taken_group c.args.end c.loop-ahead.ahead g f c.if-group-end.true) ∙ i.same;
    }

pub loop-ahead-preserved-else-group-end : goal.loop-ahead-preserved-else-group-end
loop-ahead-preserved-else-group-end c =
    let i = c.loop-ahead.invariant in
    let f = c.in-Group.ensures in
    record {
      scope = f.entered.scope ∙ i.scope;
      same =
          rw (taken_open c.args.end c.loop-ahead.ahead c.in-Group.group f c.if-group-end.false) at
          i.same;
    }

pub returns : goal.returns
returns c =
    rw (taken_done c.args.end c.loop-ahead.ahead c.loop-ahead-test.false, concat-none) at
    c.loop-ahead.invariant.same
