use Rattle.std.proofs.Common.{◌≡◌, ◌-◌, true, false, length, take, sym, ◌∙◌, arith}
use Rattle.replay_program.specs.Input.{is_cut}
use Rattle.replay_program.proofs.Lines.{past_more, past_cut, past_all, left_less}
use Rattle.replay_program.proofs.input.cut.Goals as goal

pub returns-then-eq-clause-parts : goal.returns-then-eq-clause-parts
returns-then-eq-clause-parts c =
    let past = rw c.in-Some.is at c.loop-left.invariant in
    let found : is_cut c.first_line.result.0.now ≡ true = sym c.eq.ensures ∙ c.if-eq.true in
    let text : c.range.result.now
    ≡ take (length c.in_ok-text.text.now - length c.in-Some.rest.now) c.in_ok-text.text.now =
    grind (arith, c.range.ensures.value) in
    rw (c.in_ok-text.was {u = tt})
    (past_cut c.in_ok-text.text.now c.first_line.result.0.now c.range.result.now c.in-Some.rest
    c.first_line.result.1 past c.first_line.ensures.lines found text)

pub loop-left-smaller : goal.loop-left-smaller
loop-left-smaller c =
    let less =
    left_less c.first_line.result.0.now c.in-Some.rest c.first_line.result.1
    c.first_line.ensures.concat in
    rw c.in-Some.is less

pub loop-left-preserved : goal.loop-left-preserved
loop-left-preserved c =
    let past = rw c.in-Some.is at c.loop-left.invariant in
    let uncut : is_cut c.first_line.result.0.now ≡ false = sym c.eq.ensures ∙ c.if-eq.false in
    past_more c.in_ok-text.text.now c.first_line.result.0.now c.in-Some.rest c.first_line.result.1
    past c.first_line.ensures.lines c.first_line.ensures.concat c.first_line.ensures.utf8.1
    uncut

pub returns-clause-parts : goal.returns-clause-parts
returns-clause-parts c =
    rw (c.in_ok-text.was {u = tt})
    (past_all c.in_ok-text.text.now
    (rw c.in_default.is at c.loop-left.invariant))
