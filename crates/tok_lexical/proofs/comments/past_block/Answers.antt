use Rattle.std.proofs.Common.{arith, refl, ap, ◌∙◌, ◌∷◌}
use Rattle.tok_lexical.proofs.NestedComments.{step_open, step_close, step_slash, step_asterisk}
use Rattle.tok_lexical.proofs.NestedComments.{skip_on, stops_end, open_none, takes_block}
use Rattle.tok_lexical.proofs.comments.past_block.Goals as goal

pub loop-depth-preserved-in-Some-past_char : goal.loop-depth-preserved-in-Some-past_char
loop-depth-preserved-in-Some-past_char c =
    let b = c.loop-depth.invariant.1 in
    let r = c.past_others-mark.ensures.shorter in
    let mid = skip_on _ _ _ c.loop-depth.depth c.loop-depth-test.true c.loop-depth.invariant.2
    c.past_others-mark.ensures.skips in
    let s = c.in-Some.ensures.shorter in
    let t = c.in-Some-past_char.ensures.shorter in (
      c.in-Some-past_char.ensures.utf8,
      omega arith,
      (
        _,
        step_close _ _ _ _ c.loop-depth.depth c.loop-depth-test.true mid.1
            (c.in-Some.ensures.chars ∙ ap (λ w. 42 ∷ w) c.in-Some-past_char.ensures.chars),
      ),
    )

pub loop-depth-preserved-in_default-past_char : goal.loop-depth-preserved-in_default-past_char
loop-depth-preserved-in_default-past_char c =
    let b = c.loop-depth.invariant.1 in
    let r = c.past_others-mark.ensures.shorter in
    let mid = skip_on _ _ _ c.loop-depth.depth c.loop-depth-test.true c.loop-depth.invariant.2
    c.past_others-mark.ensures.skips in
    let s = c.in-Some.ensures.shorter in (
      c.in-Some.ensures.utf8,
      omega arith,
      (
        _,
        step_asterisk _ _ _ _ c.loop-depth.depth 42 c.loop-depth-test.true mid.1
            c.in-Some.ensures.chars refl c.in_default-past_char.ensures.chars,
      ),
    )

pub returns-in_default-past_char-2-clause-tries : goal.returns-in_default-past_char-2-clause-tries
returns-in_default-past_char-2-clause-tries c =
    let run = c.past_others-mark.ensures.skips in
    let mid = skip_on _ _ _ c.loop-depth.depth c.loop-depth-test.true c.loop-depth.invariant.2 run
    in
    open_none _ _ _ c.loop-depth.depth c.loop-depth-test.true mid.1
    (stops_end _ run.1.stops c.in_default.ensures.chars c.in_default-past_char-2.ensures.chars)

pub loop-depth-preserved-in-Some-past_char-3 : goal.loop-depth-preserved-in-Some-past_char-3
loop-depth-preserved-in-Some-past_char-3 c =
    let b = c.loop-depth.invariant.1 in
    let r = c.past_others-mark.ensures.shorter in
    let mid = skip_on _ _ _ c.loop-depth.depth c.loop-depth-test.true c.loop-depth.invariant.2
    c.past_others-mark.ensures.skips in
    let s = c.in-Some-past_char-2.ensures.shorter in
    let t = c.in-Some-past_char-3.ensures.shorter in (
      c.in-Some-past_char-3.ensures.utf8,
      omega arith,
      (
        _,
        step_open _ _ _ _ c.loop-depth.depth c.loop-depth-test.true mid.1
            (c.in-Some-past_char-2.ensures.chars
            ∙ ap (λ w. 47 ∷ w) c.in-Some-past_char-3.ensures.chars),
      ),
    )

pub loop-depth-preserved : goal.loop-depth-preserved
loop-depth-preserved c =
    let b = c.loop-depth.invariant.1 in
    let r = c.past_others-mark.ensures.shorter in
    let mid = skip_on _ _ _ c.loop-depth.depth c.loop-depth-test.true c.loop-depth.invariant.2
    c.past_others-mark.ensures.skips in
    let s = c.in-Some-past_char-2.ensures.shorter in (
      c.in-Some-past_char-2.ensures.utf8,
      omega arith,
      (
        _,
        step_slash _ _ _ _ c.loop-depth.depth 47 c.loop-depth-test.true mid.1
            c.in-Some-past_char-2.ensures.chars refl c.in_default-past_char-3.ensures.chars,
      ),
    )

pub returns-clause-tries : goal.returns-clause-tries
returns-clause-tries c = let i = c.loop-depth.invariant.2 in
    takes_block _ _ i.0 c.loop-depth.depth (omega arith) i.1
