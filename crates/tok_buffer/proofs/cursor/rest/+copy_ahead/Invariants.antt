use Rattle.std.proofs.Common.{◌≡◌, ◌-◌, ◌≤◌, true}
use Rattle.tok_core.specs.Forest.{concat}
use Rattle.tok_buffer.specs.Moves.{in_scope, place_at}
use Rattle.tok_buffer.specs.Private.Steps.{OpensGroup}
use Rattle.tok_buffer.specs.Rest.{rest}
use Rattle.tok_buffer.proofs.cursor.rest.+copy_ahead.Given as goal

abbrev pub decreases-copy_ahead : goal.decreases-copy_ahead
decreases-copy_ahead l = l.scope - l.from

abbrev pub invariant-loop-position : goal.invariant-loop-position
invariant-loop-position l = record {
  within : in_scope l.buffer.forest l.position l.scope ≡ true;
  later : l.from ≤ l.position;
  stops : (l.position ≡ l.scope → ⊥)
      → OpensGroup (place_at l.buffer.number l.buffer.forest l.position l.scope);
  same : concat l.stream (rest (place_at l.buffer.number l.buffer.forest l.position l.scope))
      ≡ rest (place_at l.buffer.number l.buffer.forest l.from l.scope);
}

abbrev pub decreases-loop-position : goal.decreases-loop-position
decreases-loop-position l = l.scope - l.position
