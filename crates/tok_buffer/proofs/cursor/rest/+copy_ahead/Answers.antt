use Rattle.std.proofs.Common.{◌∙◌, refl, sym, ap, arith}
use Rattle.tok_core.specs.Forest.{concat}
use Rattle.tok_core.specs.Seen.{tree_of}
use Rattle.tok_core.specs.declared.stream.TokenTree.TheVariants as made
use Rattle.tok_core.proofs.Facts.{concat-none}
use Rattle.tok_buffer.specs.Rest.{rest}
use Rattle.tok_buffer.proofs.Rests.{rest_done, rest_group, tree_copied}
use Rattle.tok_buffer.proofs.Steps.{ahead_at}
use Rattle.tok_buffer.proofs.cursor.rest.+copy_ahead.Goals as goal

pub loop-position-preserved : goal.loop-position-preserved
loop-position-preserved t c =
    let b = c.args.buffer.now in
    let i = c.loop-position.invariant in
    let a = c.new.result in
    let g = c.in-Group.group in
    let f = c.in-Group.ensures in
    let e = c.in_ok-position-2.ensures in
    let n = c.new.ensures in
    record {
      within = e.within;
      later = omega (arith, i.later, e.later, n.position, f.after.position);
      stops = e.stops;
      same = e.copied
          ∙ ap (λ z. concat c.append.new.self (rest z)) (sym (ahead_at g.after b _ _
          (f.after.buffer ∙ n.buffer) refl (f.after.scope ∙ n.scope)))
          ∙ tree_copied _ _ _ _ _ (tree_of (made.Group c.new-copy.result))
          c.in_ok-append.ensures.ok (rw (c.new-copy.ensures, c.in_ok-content.ensures))
          (rest_group a g f)
          ∙ ap (λ z. concat c.loop-position.stream (rest z))
          (ahead_at a b _ _ n.buffer n.position n.scope)
          ∙ i.same;
    }

pub returns : goal.returns
returns t c =
    let i = c.loop-position.invariant in
    let b = c.args.buffer.now in
    let none = rest_done b.number b.forest c.loop-position.position c.args.scope i.within
    c.loop-position-test.false in
    rw (none, concat-none) at i.same
