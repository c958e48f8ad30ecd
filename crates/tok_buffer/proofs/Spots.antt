-- What holds at a cursor in a buffer.
use Rattle.std.proofs.Common.{◌≡◌, ◌∙◌, ◌+◌, ◌≤◌, ◌≢◌, List, true, false, sym}
use Rattle.tok_buffer.specs.Cursors.{spot_place}
use Rattle.tok_buffer.specs.Descent.{descend}
use Rattle.tok_buffer.specs.Moves.{advance, at_end, end_of, frame_ahead, frames_at, frames_in_scope}
use Rattle.tok_buffer.specs.Moves.{invisible_front}
use Rattle.tok_buffer.specs.Place.{Frame, Place, is_at_end, settled}
use Rattle.tok_buffer.specs.Spans.{current_span, frame_span, previous_span}
use Rattle.tok_buffer.specs.declared.spot.Spot.{Spot}
use Rattle.tok_buffer.proofs.Befores.{current_is, frame_previous, previous_is}
use Rattle.tok_buffer.proofs.Descents.{descend_done, descend_step}
use Rattle.tok_buffer.proofs.InScope.{before_scope, count_of, end_is, later_in_scope, not_at_scope}
use Rattle.tok_buffer.proofs.InScope.{scope_of}

-- the innermost frame
abbrev pub inner : Spot → Frame
inner s = (frames_at s.buffer.now.forest s.position).0

-- the frames around it in the scope
abbrev around : Spot → List Frame
around s =
    frames_in_scope (end_of s.position (inner s)) s.scope
    (frames_at s.buffer.now.forest s.position).1

module _ (s : Spot) where
  pub spot_before : s.position ≤ s.scope
  spot_before = before_scope s.buffer.now.forest s.position s.scope s.within

  -- it is at an end exactly where nothing is ahead in the frame
  pub spot_end : is_at_end (spot_place s) ≡ at_end (frame_ahead (inner s))
  spot_end = end_is s.buffer.now.number s.scope s.position (inner s) (around s)

  pub spot_inside : is_at_end (spot_place s) ≡ false → s.position ≢ s.scope
  spot_inside h =
      not_at_scope s.buffer.now.forest s.position s.scope s.within s.settled (sym spot_end ∙ h)

  pub spot_current : current_span (spot_place s) ≡ frame_span (inner s)
  spot_current = current_is s.buffer.now.number s.scope s.position (inner s) (around s)

  pub spot_previous : previous_span (spot_place s) ≡ frame_previous (inner s)
  spot_previous = previous_is s.buffer.now.number s.scope s.position (inner s) (around s)

  -- one entry on is later in the scope
  pub spot_later : (q : Place) → q ≡ settled (advance (spot_place s)) →
      (s.position + 1 ≤ count_of q) × (scope_of q ≡ s.scope)
  spot_later = later_in_scope s.buffer.now.number s.scope s.position (inner s) (around s)

  -- a descent enters the invisible group in front, and else it ends here
  pub spot_enters : invisible_front (frame_ahead (inner s)) ≡ true →
      descend (settled (advance (spot_place s))) ≡ descend (spot_place s)
  spot_enters = descend_step s.buffer.now.number s.scope s.position (inner s) (around s)

  pub spot_rests : invisible_front (frame_ahead (inner s)) ≡ false →
      descend (spot_place s) ≡ spot_place s
  spot_rests = descend_done s.buffer.now.number s.scope s.position (inner s) (around s) s.settled
