use Rattle.std.proofs.Common.{◌≡◌, ◌-◌, ◌≤◌}
use Rattle.tok_buffer.specs.Moves.{place_at}
use Rattle.tok_buffer.specs.Private.Steps.{ahead_place}
use Rattle.tok_buffer.proofs.Scans.{shown}
use Rattle.tok_buffer.proofs.cursor.spans.scan.Given as goal

abbrev pub invariant-loop-ahead : goal.invariant-loop-ahead
invariant-loop-ahead l = record {
  small : l.depth ≤ l.ahead.position;
  same : shown l.depth (ahead_place l.ahead)
      ≡ shown 0 (place_at l.buffer.number l.buffer.forest l.from l.scope);
}

abbrev pub decreases-loop-ahead : goal.decreases-loop-ahead
decreases-loop-ahead l = l.ahead.scope - l.ahead.position
