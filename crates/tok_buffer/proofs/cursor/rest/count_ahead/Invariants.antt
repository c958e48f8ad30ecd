use Rattle.std.proofs.Common.{◌≡◌, ◌+◌, ◌-◌, ◌≤◌}
use Rattle.tok_buffer.specs.Moves.{place_at}
use Rattle.tok_buffer.specs.Private.Counts.{tree_count}
use Rattle.tok_buffer.specs.Private.Steps.{ahead_place}
use Rattle.tok_buffer.specs.Rest.{rest}
use Rattle.tok_buffer.proofs.cursor.rest.count_ahead.Given as goal

abbrev pub invariant-loop-ahead : goal.invariant-loop-ahead
invariant-loop-ahead l = record {
  fits : l.count ≤ l.ahead.position;
  counted : l.count + tree_count (rest (ahead_place l.ahead))
      ≡ tree_count (rest (place_at l.buffer.number l.buffer.forest l.from l.scope));
}

abbrev pub decreases-loop-ahead : goal.decreases-loop-ahead
decreases-loop-ahead l = l.ahead.scope - l.ahead.position
