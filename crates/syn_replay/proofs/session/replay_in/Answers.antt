use Rattle.std.proofs.Common.{◌∙◌, ◌++◌, ap, map, rules, subst, sym, arith}
use Rattle.syn_replay.specs.Commands.{command_of}
use Rattle.syn_replay.specs.Meanings.{line_of, verdict_of}
use Rattle.syn_replay.specs.Session.Promises.{ArePlain}
use Rattle.syn_replay.specs.Session.State.{first_state}
use Rattle.syn_replay.specs.Session.Streams.{state_of}
use Rattle.syn_replay.specs.Session.Walk.{last_state, lines_from, verdict}
use Rattle.syn_replay.proofs.Walk.Acceptance.{accepts_when}
use Rattle.syn_replay.proofs.Walk.Received.{lines_kept}
use Rattle.syn_replay.proofs.session.replay_in.Goals as goal
use Rattle.std.proofs.lemmas.Grind.{common_steps}

pub returns-clause-walk : goal.returns-clause-walk
returns-clause-walk c =
    let cs = map command_of c.args.commands.now in
    let forest = c.args.buffer.now.forest in
    let first = c.in_ok-streams.ensures.state in
    let none = c.in_ok-lines.ensures.items in
    let kept =
    lines_kept (state_of c.in_ok-streams.streams) c.args.commands.now c.in_ok-lines.lines
    c.run.new.receiver c.in_ok-run.ensures.lines
    (subst ArePlain (sym none) (λ k d h. absurd (omega (arith, h)))) in
    ap (λ ls. record { lines = ls; verdict = verdict_of c.in_ok-verdict.verdict })
    (kept.0 ∙ ap (λ ls. map line_of ls ++ lines_from (state_of c.in_ok-streams.streams) cs) none
    ∙ ap (λ s. lines_from s cs) first)
    ∙ ap (λ v. record { lines = lines_from (first_state forest) cs; verdict = v })
    (c.in_ok-verdict.ensures.0
    ∙ ap verdict (c.in_ok-run.ensures.state ∙ ap (λ s. last_state s cs) first))

pub returns-clause-errors : goal.returns-clause-errors
returns-clause-errors c = grind (arith, common_steps, lines_kept)

pub returns-clause-acceptance : goal.returns-clause-acceptance
returns-clause-acceptance c = search (rules, accepts_when)
