use Rattle.std.proofs.Common.{◌∷◌, ◌∙◌, sym, ap, is_some}
use Rattle.std.specs.Str.{chars}
use Rattle.tok_buffer.specs.Cursors.{spot_place}
use Rattle.tok_buffer.specs.Reads.{place_after, read_next, read_punctuation}
use Rattle.tok_buffer.proofs.Peeks.{joint_then}
use Rattle.tok_buffer.proofs.PunctRuns.{nothing_without_spot}
use Rattle.tok_buffer.proofs.cursor.Cursor.peek_punct.Goals as goal

pub loop-next-preserved : goal.loop-next-preserved
loop-next-preserved c =
    let p = spot_place c.loop-next.spot in
    let w = c.loop-next.wanted in
    let found = c.in-Some-next_char-2 in (
      found.ensures.utf8,
      sym (joint_then w found.next (chars found.after.now) p (spot_place c.in-Some-next_of.ahead)
          (ap (λ cs. place_after (read_next w cs p)) (sym found.ensures.chars)
          ∙ ap place_after c.in-Some-next_of.ensures))
          ∙ ap (λ cs. is_some (read_punctuation (w ∷ cs) p)) (sym found.ensures.chars)
          ∙ c.loop-next.invariant.1,
    )

pub returns-in_default : goal.returns-in_default
returns-in_default c =
    sym (ap is_some (nothing_without_spot c.args.self (chars c.args.text.now) c.in_default.is))
