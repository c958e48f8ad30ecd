use Rattle.std.proofs.Common.{length}
use denote.Text.{Utf8}
use denote.Shadow.{shadow}
use Rattle.outline.specs.Positions.{GoesOn}
use Rattle.outline.proofs.position.Place.moved_to.Given as goal

abbrev pub invariant-loop-place : goal.invariant-loop-place
invariant-loop-place l =
    shadow (Utf8 l.place.rest.now)
    × GoesOn l.fn.self.position l.fn.self.rest.now l.place.position l.place.rest.now

abbrev pub decreases-loop-place : goal.decreases-loop-place
decreases-loop-place l = length l.place.rest.now
