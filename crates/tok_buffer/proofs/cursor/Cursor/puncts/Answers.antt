use Rattle.std.proofs.Common.{arith, length, rules, subst}
use Rattle.std.specs.Str.{chars}
use Rattle.tok_core.specs.Forest.{leaf}
use Rattle.tok_leaves.specs.Leaves.{punct_of}
use Rattle.tok_buffer.specs.Cursors.{place_of, spot_place}
use Rattle.tok_buffer.specs.Reads.{sized}
use Rattle.tok_buffer.proofs.PunctRuns.{SoFar, so_far_start, so_far_more, at_spot}
use Rattle.tok_buffer.proofs.PunctRuns.{nothing_without_spot}
use Rattle.tok_buffer.proofs.cursor.Cursor.puncts.Goals as goal

pub loop-span-init : goal.loop-span-init
loop-span-init c = (
  c.utf8.text,
  subst (SoFar (chars c.args.text.now) (place_of c.args.self) 0 c.args.spans.now
      (chars c.args.text.now)) (at_spot c.args.self c.in_ok-spot.spot c.in_ok-spot.was)
      (so_far_start (chars c.args.text.now) (place_of c.args.self) c.args.spans.now),
)

pub returns-in_err-spot : goal.returns-in_err-spot
returns-in_err-spot c =
    let nothing = nothing_without_spot c.args.self
    (sized (length c.args.spans.now) (chars c.args.text.now)) c.in_err-spot.was in
    search rules

pub loop-span-preserved : goal.loop-span-preserved
loop-span-preserved c =
    let i = c.loop-span in
    let more = so_far_more _ _ i.span-index i.spans _ _ i.invariant.1 c.in-Some.wanted
    (chars c.in-Some.after.now) (leaf (punct_of c.in-Some-next_of.punct.now))
    (spot_place c.in-Some-next_of.ahead) in (
      c.in-Some.ensures.utf8,
      rw c.span.ensures (more (omega (arith, c.loop-span-test.true, i.auto.spans))
          c.in-Some.ensures.chars (c.in-Some-next_of.ensures {u = tt})),
    )
