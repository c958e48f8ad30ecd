use Rattle.std.proofs.Common.{◌≡◌, ◌++◌, ◌-◌, ◌≤◌, List, ℕ}
use Rattle.std.specs.Fmt.{HasWritten, IsPlainFormatter}
use Rattle.tok_core.specs.Text.{text, text_after}
use Rattle.tok_buffer.specs.Moves.{place_at}
use Rattle.tok_buffer.specs.Private.Steps.{ahead_place}
use Rattle.tok_buffer.specs.Rest.{rest}
use Rattle.tok_buffer.proofs.cursor.rest.+write_from.Given as goal

abbrev pub decreases-write_from : goal.decreases-write_from
decreases-write_from g l = l.scope - l.from

abbrev pub invariant-loop-ahead : goal.invariant-loop-ahead
invariant-loop-ahead g l = record {
  scope : l.ahead.scope ≡ l.scope;
  later : l.from ≤ l.ahead.position;
  written : IsPlainFormatter l.initial.f → (done : List ℕ) × HasWritten g.W.Write.write_str_gives
      l.initial.f done l.f
      × (done ++ text_after l.is_glued (rest (ahead_place l.ahead))
      ≡ text (rest (place_at l.buffer.number l.buffer.forest l.from l.scope)));
}

abbrev pub decreases-loop-ahead : goal.decreases-loop-ahead
decreases-loop-ahead g l = l.ahead.scope - l.ahead.position
