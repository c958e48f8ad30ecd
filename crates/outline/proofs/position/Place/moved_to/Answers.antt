use Rattle.std.proofs.Common.{◌∙◌}
use Rattle.outline.proofs.Moves.{goes_past}
use Rattle.outline.proofs.position.Place.moved_to.Goals as goal

pub loop-place-preserved : goal.loop-place-preserved
loop-place-preserved c =
    let p = c.args.self in
    let q = c.loop-place.place in
    let more =
    goes_past p.position p.rest.now q.position q.rest.now c.in-Some.c c.in-Some.rest.now
    c.loop-place.invariant.1 c.in-Some.ensures.chars in
    (c.in-Some.ensures.utf8, (more.0, more.1, c.step.ensures ∙ more.2))
