use Rattle.std.proofs.Common.{ap, arith}
use Rattle.tok_buffer.specs.Private.Counts.{tree_count}
use Rattle.tok_buffer.proofs.Rests.{rest_done}
use Rattle.tok_buffer.proofs.cursor.rest.count_ahead.Goals as goal

pub returns : goal.returns
returns c =
    let a = c.loop-ahead.ahead in
    let none = rest_done a.buffer.now.number a.buffer.now.forest a.position a.scope a.within
    c.loop-ahead-test.false in
    omega (arith, ap tree_count none)
