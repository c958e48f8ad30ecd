use denote.Text.{Utf8}
use denote.Shadow.{shadow}
use Rattle.std.specs.Str.{chars}
use Rattle.tok_buffer.specs.Cursors.{place_of, spot_place}
use Rattle.tok_buffer.proofs.PunctRuns.{SoFar}
use Rattle.tok_buffer.proofs.cursor.Cursor.puncts.Given as goal

abbrev pub invariant-loop-span : goal.invariant-loop-span
invariant-loop-span l =
    shadow (Utf8 l.rest) × SoFar (chars l.fn.text) (place_of l.fn.self) l.span-index l.spans
    (chars l.rest) (spot_place l.spot)
