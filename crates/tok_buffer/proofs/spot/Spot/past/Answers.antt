use Rattle.std.proofs.Common.{◌≡◌, true, arith, ◌∙◌, sym}
use Rattle.tok_buffer.specs.Moves.{settled_at}
use Rattle.tok_buffer.proofs.InScope.{leave_finished_step, settled_front, settled_scope}
use Rattle.tok_buffer.proofs.InScope.{place_settled}
use Rattle.tok_buffer.proofs.spot.Spot.past.Goals as goal
use Rattle.tok_buffer.proofs.spot.Spot.past.Goals.{then-loop-position-test+else-ends_at}
use Rattle.tok_buffer.proofs.spot.Spot.past.Goals.{else-loop-position-test}

pub loop-position-preserved : goal.loop-position-preserved
loop-position-preserved c =
    let b = c.args.buffer.now in
    let n = c.loop-position.position in
    let i = c.loop-position.invariant in
    let m = leave_finished_step b.number n c.args.scope b.forest i.within c.loop-position-test.true
    (sym c.ends_at.ensures ∙ c.if-ends_at.true) in
    record {
      within = m.0;
      before = omega (arith, i.before, c.loop-position-test.true);
      same = m.1 ∙ i.same;
    }

settled_there : (c : goal.Left-loop-position) → settled_at c.args.buffer.now.forest
    c.loop-position.position c.args.scope ≡ true
settled_there c =
    let F = c.args.buffer.now.forest in
    let n = c.loop-position.position in
    elim c.loop-position-test.branch [
      | then-loop-position-test+else-ends_at w ↦ settled_front F n c.args.scope
          (sym w.ends_at.ensures ∙ w.if-ends_at.false)
      | else-loop-position-test w ↦ settled_scope F n c.args.scope c.loop-position.invariant.within
          w.loop-position-test.false
    ]

pub invariant_of-result : goal.invariant_of-result
invariant_of-result c = record {
  in_buffer = c.requires.in_buffer;
  within = c.loop-position.invariant.within;
  settled = settled_there c;
}

pub returns : goal.returns
returns c =
    let b = c.args.buffer.now in
    sym (place_settled b.number c.loop-position.position c.args.scope b.forest
    (settled_there c.before))
    ∙ c.loop-position.invariant.same
