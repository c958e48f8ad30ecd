use Rattle.std.proofs.Common.{◌∙◌, refl, sym, ap, arith}
use Rattle.tok_core.specs.Forest.{leaf}
use Rattle.tok_buffer.specs.Place.{front}
use Rattle.tok_buffer.specs.Private.Layout.{leaf_in}
use Rattle.tok_buffer.proofs.Rests.{rest_front, tree_copied}
use Rattle.tok_buffer.proofs.Steps.{ahead_at}
use Rattle.tok_buffer.proofs.cursor.rest.copy_leaves.Goals as goal

pub loop-ahead-preserved-in-Leaf : goal.loop-ahead-preserved-in-Leaf
loop-ahead-preserved-in-Leaf c =
    let i = c.loop-ahead.invariant in
    let e = c.in-Leaf.ensures in
    let l = leaf (leaf_in c.in-Leaf.leaf) in
    record {
      buffer = e.1.buffer ∙ i.buffer;
      scope = e.1.scope ∙ i.scope;
      later = omega (arith, i.later, e.1.position);
      same = tree_copied _ _ _ _ l l (c.in_ok-append_to-in-Leaf.ensures {u = tt}).ok refl
          (rest_front c.loop-ahead.ahead c.in-Leaf.after 1 l e.0 e.1) ∙ i.same;
    }

pub returns-in-Group-clause-stops : goal.returns-in-Group-clause-stops
returns-in-Group-clause-stops c _ =
    let i = c.loop-ahead.invariant in
    let f = c.in-Group.ensures in (
      _,
      f.contents,
      _,
      ap front (sym (ahead_at c.loop-ahead.ahead c.args.buffer.now _ _ i.buffer refl i.scope))
          ∙ f.found,
    )
