use Rattle.std.proofs.Common.{◌≡◌, ◌-◌, ◌≤◌}
use Rattle.tok_core.specs.Forest.{concat}
use Rattle.tok_buffer.specs.Moves.{place_at}
use Rattle.tok_buffer.specs.Private.Steps.{ahead_place}
use Rattle.tok_buffer.specs.Rest.{rest}
use Rattle.tok_buffer.proofs.cursor.rest.copy_leaves.Given as goal

abbrev pub invariant-loop-ahead : goal.invariant-loop-ahead
invariant-loop-ahead l = record {
  buffer : l.ahead.buffer.now ≡ l.buffer;
  scope : l.ahead.scope ≡ l.scope;
  later : l.from ≤ l.ahead.position;
  same : concat l.stream (rest (ahead_place l.ahead)) ≡ concat l.initial.stream
      (rest (place_at l.buffer.number l.buffer.forest l.from l.scope));
}

abbrev pub decreases-loop-ahead : goal.decreases-loop-ahead
decreases-loop-ahead l = l.ahead.scope - l.ahead.position
