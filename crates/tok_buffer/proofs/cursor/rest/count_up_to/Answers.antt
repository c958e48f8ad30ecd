use Rattle.std.proofs.Common.{◌∙◌, ap, arith}
use Rattle.tok_buffer.specs.Private.Counts.{tree_count}
use Rattle.tok_buffer.proofs.BetweenAt.{taken_done, taken_open}
use Rattle.tok_buffer.proofs.cursor.rest.count_up_to.Goals as goal

pub loop-ahead-preserved-else-group-end : goal.loop-ahead-preserved-else-group-end
loop-ahead-preserved-else-group-end c =
    let i = c.loop-ahead.invariant in
    let f = c.in-Group.ensures in
    record {
      scope = f.entered.scope ∙ i.scope;
      fits = omega (arith, i.fits, f.entered.position);
      counted =
          let entered = taken_open c.args.end c.loop-ahead.ahead c.in-Group.group f
          c.if-group-end.false in
          omega (arith, i.counted, ap tree_count entered);
    }

pub returns : goal.returns
returns c =
    let none = taken_done c.args.end c.loop-ahead.ahead c.loop-ahead-test.false in
    omega (arith, ap tree_count none)
