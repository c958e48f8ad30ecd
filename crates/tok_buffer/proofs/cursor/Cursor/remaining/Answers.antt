use Rattle.std.proofs.Common.{arith}
use Rattle.tok_buffer.specs.Cursors.{spot_place}
use Rattle.tok_buffer.proofs.Counted.{spot-left, visible-left}
use Rattle.tok_buffer.proofs.cursor.Cursor.remaining.Goals as goal
use Rattle.tok_buffer.proofs.Spots.{spot_before}

pub overflow_sub-result : goal.overflow_sub-result
overflow_sub-result c = spot_before c.in-Some.spot

pub returns-in-Some-clause-counts : goal.returns-in-Some-clause-counts
returns-in-Some-clause-counts c = rw c.in-Some.is (spot-left c.in-Some.spot)

pub returns-in-Some-clause-visible : goal.returns-in-Some-clause-visible
returns-in-Some-clause-visible c =
    let s = c.in-Some.spot in
    rw c.in-Some.is (omega (arith, spot-left s, visible-left (spot_place s)))
