use Rattle.std.proofs.Common.{◌≡◌, ◌-◌}
use Rattle.tok_core.specs.Forest.{concat}
use Rattle.tok_buffer.specs.Between.{trees_to}
use Rattle.tok_buffer.specs.Cursors.{spot_place}
use Rattle.tok_buffer.specs.Private.Steps.{ahead_place}
use Rattle.tok_buffer.proofs.cursor.rest.copy_up_to.Given as goal

abbrev pub invariant-loop-ahead : goal.invariant-loop-ahead
invariant-loop-ahead l = record {
  scope : l.ahead.scope ≡ l.spot.scope;
  same : concat l.stream (trees_to l.end (ahead_place l.ahead))
      ≡ trees_to l.end (spot_place l.spot);
}

abbrev pub decreases-loop-ahead : goal.decreases-loop-ahead
decreases-loop-ahead l = l.end - l.ahead.position
