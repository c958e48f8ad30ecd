use Rattle.std.proofs.Common.{◌∙◌, ap, subst, refl, sym, ◌++◌, [], ◌∷◌, true, Ok, Err, arith}
use Rattle.std.proofs.lemmas.List.{length-set}
use Rattle.tok_leaves.specs.Spans.{whole_span}
use Rattle.syn_parse.specs.Groups.{Enters}
use Rattle.syn_parse.specs.Pauses.{paused_state}
use Rattle.syn_parse.specs.ErrorWords.{refused_at}
use Rattle.syn_replay.specs.Commands as commands
use Rattle.syn_replay.specs.Reports as reports
use Rattle.syn_replay.specs.Session.State.{with_stream, content_of, moved_as, stream_from}
use Rattle.syn_replay.specs.Session.State.{printed_position, stream_at}
use Rattle.syn_replay.specs.Session.Step.{stream_position}
use Rattle.syn_replay.specs.Session.Entering.{entered_by, entering_words}
use Rattle.syn_replay.specs.Session.Stream.{stream_of}
use Rattle.syn_replay.specs.Session.Streams.{state_of}
use Rattle.syn_replay.specs.declared.report.Answer.TheVariants as answer
use Rattle.syn_replay.proofs.Walk.Entering.{AreEntered, entered-value, entered-error}
use Rattle.syn_replay.proofs.Walk.Changes.{open_within}
use Rattle.syn_replay.proofs.Walk.Lines.{line_done}
use Rattle.syn_replay.proofs.Walk.Positions.{position_changed, position_more, position_open}
use Rattle.syn_replay.proofs.session.streams.Streams.enter.Goals as goal

pub returns-in_ok-number-in-Ok-entered : goal.returns-in_ok-number-in-Ok-entered
returns-in_ok-number-in-Ok-entered c =
    let st = state_of c.args.self.now in
    let n = c.args.n in
    let w = c.args.wanted in
    let s = stream_of c.in-Ok.stream.now in
    let is_open = c.in-Ok.ensures {u = tt} in
    let within = open_within st n (ap (λ z. z.is_open) is_open.0 ∙ is_open.1) in
    let moved = moved_as (paused_state c.pause-in-Ok-entered.result) in
    let group = c.in-Ok-entered in
    let t = c.enter_group-entered.new.input in
    let read =
    subst (λ s. Enters AreEntered (entered_by w s.place) (refused_at s (entering_words w)) s
    (Ok (group.delimiter, group.span, group.content)) t) c.resume-input.ensures group.ensures in
    let value =
    entered-value st n s is_open.0 (entering_words w) (entered_by w s.place) group.delimiter
    group.span group.content t read in
    let number = c.in_ok-number-in-Ok-entered.number in
    let made = c.in_ok-number-in-Ok-entered.ensures {u = tt} in
    line_done n st (commands.enter w) refl s is_open refl
    (answer.Entered number group.delimiter group.span) _ (state_of c.add_content.new.self)
    refl
    (ap (λ k. reports.entered k group.delimiter (whole_span group.span)) made.number ∙ value.0, tt)
    (made.ok
    ∙ ap (λ u. with_stream st n (moved_as u)
    ++ stream_from (paused_state c.pause.result) (content_of n) true ∷ [])
    c.pause-in-Ok-entered.ensures
    ∙ ap (λ u. with_stream st n (moved_as t) ++ stream_from u (content_of n) true ∷ [])
    c.pause.ensures
    ∙ value.1)
    (c.position_at-position.ensures ∙ ap printed_position c.cursor.ensures
    ∙ sym (ap (λ z. stream_position z n) made.ok
    ∙ position_more (with_stream st n moved) n
    (stream_from (paused_state c.pause.result) (content_of n) true)
    (omega (arith, within, length-set st n (moved (stream_at st n))))
    ∙ position_changed st n moved within
    ∙ ap (λ u. printed_position u.place) c.pause-in-Ok-entered.ensures))

pub returns-in_ok-refused-in-Err-entered : goal.returns-in_ok-refused-in-Err-entered
returns-in_ok-refused-in-Err-entered c =
    let st = state_of c.args.self.now in
    let n = c.args.n in
    let w = c.args.wanted in
    let s = stream_of c.in-Ok.stream.now in
    let is_open = c.in-Ok.ensures {u = tt} in
    let fault = c.in-Err-entered.fault in
    let t = c.enter_group-entered.new.input in
    let read =
    subst (λ s. Enters AreEntered (entered_by w s.place) (refused_at s (entering_words w)) s
    (Err fault) t) c.resume-input.ensures c.in-Err-entered.ensures in
    let a = c.in_ok-refused-in-Err-entered.field-0 in
    let ((same, then), stays) =
    entered-error st n s is_open.0 (entering_words w) (entered_by w s.place) fault t (Ok a) read
    (c.in_ok-refused-in-Err-entered.ensures {u = tt}) in
    line_done n st (commands.enter w) refl s is_open refl a _ st refl same then
    (c.position_at-position.ensures ∙ ap printed_position c.cursor.ensures
    ∙ ap printed_position stays
    ∙ sym (position_open st n (open_within st n (ap (λ z. z.is_open) is_open.0 ∙ is_open.1))))
