use Rattle.std.proofs.Common.{◌≡◌, ◌∙◌, sym}
use Rattle.tok_buffer.specs.Cursors.{spot_place}
use Rattle.tok_buffer.specs.Moves.{frames_at}
use Rattle.tok_buffer.specs.Private.Layout.{entry_here}
use Rattle.tok_buffer.specs.declared.entry.Entry.TheVariants.{Group}
use Rattle.tok_buffer.proofs.Groups.{held_fits, held_within, held_settled, held_after, held_enters}
use Rattle.tok_buffer.proofs.cursor.Cursor.any_group.Goals as goal
use Rattle.tok_buffer.proofs.cursor.Cursor.any_group.Goals.{In-Group}

here : (c : In-Group) →
    entry_here (frames_at c.in_ok-spot.spot.buffer.now.forest c.in_ok-spot.spot.position).0
    ≡ Group c.in-Group.group c.in-Group.offset
here c = sym c.entry.ensures ∙ c.in-Group.is

pub inside-content-requires : goal.inside-content-requires
inside-content-requires c =
    let s = c.in_ok-spot.spot in
    let F = s.buffer.now.forest in
    let e = here (goal.at.inside-content-requires c).In-Group in
    record {
      in_buffer = s.in_buffer;
      in_front = held_fits F s.position s.scope _ _ s.within e;
      within = held_within F s.position s.scope _ _ s.within e;
      settled = held_settled F s.position s.scope _ _ s.within e;
    }

pub past-after-requires : goal.past-after-requires
past-after-requires c =
    let s = c.in_ok-spot.spot in
    let F = s.buffer.now.forest in
    let e = here (goal.at.past-after-requires c).In-Group in
    record {
      in_buffer = s.in_buffer;
      in_front = held_fits F s.position s.scope _ _ s.within e;
      within = held_after F s.position s.scope _ _ s.within e;
    }

pub returns-in-Group : goal.returns-in-Group
returns-in-Group c =
    let s = c.in_ok-spot.spot in
    rw (c.in_ok-spot.was, c.new.ensures, c.at.ensures, c.at-in-Group.ensures)
    (held_enters s.buffer.now.forest s.position s.scope _ _ s.within
    (here (goal.at.returns-in-Group c).In-Group) s.buffer.now.number
    (spot_place c.inside-content.result) (spot_place c.past-after.result)
    c.inside-content.ensures c.past-after.ensures)
