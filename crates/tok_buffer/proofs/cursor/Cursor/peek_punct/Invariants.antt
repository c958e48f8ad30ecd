use Rattle.std.proofs.Common.{◌≡◌, ◌∷◌, is_some, length}
use denote.Text.{Utf8}
use denote.Shadow.{shadow}
use Rattle.std.specs.Str.{chars}
use Rattle.tok_buffer.specs.Cursors.{place_of, spot_place}
use Rattle.tok_buffer.specs.Reads.{read_punctuation}
use Rattle.tok_buffer.proofs.cursor.Cursor.peek_punct.Given as goal

abbrev pub invariant-loop-next : goal.invariant-loop-next
invariant-loop-next l =
    shadow (Utf8 l.rest)
    × (is_some (read_punctuation (l.wanted ∷ chars l.rest) (spot_place l.spot))
    ≡ is_some (read_punctuation (chars l.fn.text) (place_of l.fn.self)))

abbrev pub decreases-loop-next : goal.decreases-loop-next
decreases-loop-next l = length l.rest
