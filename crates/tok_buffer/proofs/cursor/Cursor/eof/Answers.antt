use Rattle.std.proofs.Common.{◌∙◌, sym}
use Rattle.tok_buffer.specs.Moves.{frames_at}
use Rattle.tok_buffer.proofs.InScope.{end_seen}
use Rattle.tok_buffer.proofs.cursor.Cursor.eof.Goals as goal
use Rattle.tok_buffer.proofs.Spots.{spot_end}

pub returns-in-Some : goal.returns-in-Some
returns-in-Some c =
    let s = c.in-Some.spot in
    let x = frames_at s.buffer.now.forest s.position in
    rw c.in-Some.is (end_seen s.position s.scope x.0 x.1 s.within s.settled ∙ sym (spot_end s))
