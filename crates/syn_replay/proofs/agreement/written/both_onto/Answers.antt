use Rattle.std.proofs.Common.{◌≡◌, ◌∙◌, ◌↔◌, ap, map, refl, subst, sym, true}
use Rattle.std.proofs.lemmas.Bool.{both_ways}
use Rattle.std.specs.Prelude.{string_bytes}
use Rattle.syn_replay.specs.Agree.{LinesAgree, VerdictsAgree}
use Rattle.syn_replay.specs.Commands.{command_of}
use Rattle.syn_replay.specs.Meanings.{verdict_of}
use Rattle.syn_replay.specs.Session.Streams.{state_of}
use Rattle.syn_replay.specs.Session.Walk.{last_state, lines_from, verdict, walk}
use Rattle.syn_replay.proofs.Walk.Received.{lines_of_both, report_written, reports_agree}
use Rattle.syn_replay.proofs.agreement.written.both_onto.Goals as goal
use Rattle.syn_replay.proofs.agreement.written.both_onto.Goals.{then-pair, else-pair}

pub returns-clause-left : goal.returns-clause-left
returns-clause-left c =
    let cs = c.args.commands.now in
    let both = lines_of_both _ _ cs _ _ c.in_ok-run.ensures.lines in
    ap string_bytes c.into_inner.ensures
    ∙ report_written _ string_bytes (λ _ _ _ t. t) c.args.left.now.forest (map command_of cs)
    _ (state_of c.run.new.streams) c.in_ok-left_verdict.left_verdict c.in_ok-ours.ensures.state
    c.in_ok-run.ensures.state c.in_ok-left_verdict.ensures.0 _ _
    c.push_verdict.new.f c.new.ensures.plain
    (ap string_bytes c.new.ensures.writer ∙ c.in_ok-report_room.ensures.bytes)
    both.left c.in_ok-push_verdict.ensures

pub returns-clause-right : goal.returns-clause-right
returns-clause-right c =
    let cs = c.args.commands.now in
    let both = lines_of_both _ _ cs _ _ c.in_ok-run.ensures.lines in
    ap string_bytes c.into_inner-2.ensures
    ∙ report_written _ string_bytes (λ _ _ _ t. t) c.args.right.now.forest (map command_of cs)
    _ _ c.in_ok-right_verdict.right_verdict c.in_ok-opened.ensures.state
    both.state c.in_ok-right_verdict.ensures.0 _ _
    c.push_verdict-2.new.f c.new-2.ensures.plain
    (ap string_bytes c.new-2.ensures.writer ∙ c.in_ok-report_room-2.ensures.bytes)
    both.right c.in_ok-push_verdict-2.ensures

pub returns-clause-right_verdict : goal.returns-clause-right_verdict
returns-clause-right_verdict c =
    let cs = c.args.commands.now in
    let both = lines_of_both _ _ cs _ _ c.in_ok-run.ensures.lines in
    c.in_ok-right_verdict.ensures.0
    ∙ ap verdict (both.state
    ∙ ap (λ s. last_state s (map command_of cs)) c.in_ok-opened.ensures.state)

pub returns-clause-agree : goal.returns-clause-agree
returns-clause-agree c =
    let cs = map command_of c.args.commands.now in
    let left = walk c.args.left.now.forest cs in
    let right = walk c.args.right.now.forest cs in
    let both = lines_of_both _ _ c.args.commands.now _ _ c.in_ok-run.ensures.lines in
    let ours = verdict_of c.in_ok-left_verdict.left_verdict in
    let lines : Type 0 = c.run.new.receiver.agree ≡ true in
    let first : ours ≡ left.verdict =
    c.in_ok-left_verdict.ensures.0
    ∙ ap verdict
    (c.in_ok-run.ensures.state ∙ ap (λ s. last_state s cs) c.in_ok-ours.ensures.state) in
    reports_agree left right c.run.new.receiver.agree c.if-pair.agree
    (subst (λ s. lines ↔ LinesAgree (lines_from s cs) right.lines) c.in_ok-ours.ensures.state
    (subst (λ s. lines ↔ LinesAgree (lines_from (state_of c.in_ok-ours.ours) cs)
    (lines_from s cs)) c.in_ok-opened.ensures.state
    (λ so. (both.agree.0 so).1, λ all. both.agree.1 (refl, all))))
    (λ so. elim c.if-pair.branch [
      | then-pair w ↦
          subst (λ b. (b ≡ true) ↔ VerdictsAgree left.verdict right.verdict) (sym w.agree-is)
          (subst (λ v. (w.verdicts_agree-agree.result ≡ true) ↔ VerdictsAgree v right.verdict)
          first
          (subst (λ v. (w.verdicts_agree-agree.result ≡ true) ↔ VerdictsAgree ours v)
          (returns-clause-right_verdict c) w.verdicts_agree-agree.ensures))
      | else-pair w ↦ absurd (both_ways c.run.new.receiver.agree w.if-pair.false so)
    ])
    (λ no. elim c.if-pair.branch [
      | then-pair w ↦ absurd (both_ways c.run.new.receiver.agree no w.if-pair.true)
      | else-pair w ↦ w.agree-is ∙ no
    ])
