use Rattle.std.proofs.Common.{◌∙◌, ap, subst, Ok, Err}
use Rattle.syn_parse.specs.declared.fault.Fault.TheVariants as fault
use Rattle.syn_replay.specs.Session.Reading.{IsRead}
use Rattle.syn_replay.specs.Session.State.{printed_position, moved_as}
use Rattle.syn_replay.specs.Session.Stream.{stream_of}
use Rattle.syn_replay.specs.declared.report.Answer.TheVariants as answer
use Rattle.syn_replay.proofs.Walk.Lines.{line_read}
use Rattle.syn_replay.proofs.session.stream.Stream.read.Goals as goal

pub returns-in-Ok-clause-line : goal.returns-in-Ok-clause-line
returns-in-Ok-clause-line g c r reads =
    let s = stream_of c.args.self.now in
    let t = c.call-answer.new.self in
    let said =
    subst (λ u. IsRead r u (Ok c.in-Ok.answer) t) c.resume-input.ensures
    (subst (λ x. IsRead r c.resume-input.result x t) c.in-Ok.is
    (reads _ _ _ c.call-answer.ensures)) in
    line_read s _ c.position_at-position.result t (ap (λ u. moved_as u s) c.pause-self.ensures)
    (c.position_at-position.ensures ∙ ap printed_position c.cursor.ensures) r c.in-Ok.answer
    said.0 said.1

pub returns-in-Err-Refused-clause-line : goal.returns-in-Err-Refused-clause-line
returns-in-Err-Refused-clause-line g c r reads =
    let s = stream_of c.args.self.now in
    let t = c.call-answer.new.self in
    let e = c.in-Err-Refused.error in
    let said =
    subst (λ u. IsRead r u (Err (fault.Refused e)) t) c.resume-input.ensures
    (subst (λ x. IsRead r c.resume-input.result x t)
    (c.in-Err-Refused.is ∙ ap Err c.in-Err-Refused.field-0-is)
    (reads _ _ _ c.call-answer.ensures)) in
    line_read s _ c.position_at-position.result t (ap (λ u. moved_as u s) c.pause-self.ensures)
    (c.position_at-position.ensures ∙ ap printed_position c.cursor.ensures) r (answer.Refused e)
    said.0 said.1
