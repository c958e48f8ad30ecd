use Rattle.std.proofs.Common.{◌≡◌, ◌+◌, ◌-◌, ◌∙◌, sym, ap, arith}
use Rattle.tok_buffer.specs.Moves.{frames_at}
use Rattle.tok_buffer.proofs.Befores.{frame_previous, previous_at, previous_start}
use Rattle.tok_buffer.proofs.cursor.Cursor.prev_span.Goals as goal
use Rattle.tok_buffer.proofs.Spots.{spot_before, spot_previous}

pub span_at-requires-else-spot-eq0 : goal.span_at-requires-else-spot-eq0
span_at-requires-else-spot-eq0 c =
    let s = c.in-Some.spot in omega (arith, spot_before s, s.in_buffer)

pub returns-then-spot-eq0 : goal.returns-then-spot-eq0
returns-then-spot-eq0 c =
    let s = c.in-Some.spot in
    let F = s.buffer.now.forest in
    rw c.in-Some.is (c.span_at.ensures ∙ sym (previous_start F)
    ∙ sym (ap (λ n. frame_previous (frames_at F n).0) c.if-spot-eq0.true)
    ∙ sym (spot_previous s))

pub returns-else-spot-eq0 : goal.returns-else-spot-eq0
returns-else-spot-eq0 c =
    let s = c.in-Some.spot in
    let F = s.buffer.now.forest in
    let q : s.position - 1 + 1 ≡ s.position = omega arith in
    rw c.in-Some.is (c.span_at-else-spot-eq0.ensures
    ∙ sym (previous_at F (s.position - 1) (omega (arith, spot_before s, s.in_buffer)))
    ∙ ap (λ n. frame_previous (frames_at F n).0) q ∙ sym (spot_previous s))
