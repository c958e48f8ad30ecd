use Rattle.std.proofs.Common.{◌∙◌, ap, subst, Err}
use Rattle.syn_parse.specs.declared.fault.Fault.TheVariants as fault
use Rattle.syn_replay.specs.Commands as commands
use Rattle.syn_replay.specs.Kinds.{kind_missing, read}
use Rattle.syn_replay.specs.Meanings.{kind_of}
use Rattle.syn_replay.specs.Session.Reading.{ReadsPieces}
use Rattle.syn_replay.specs.Session.State.{parse_state, printed_position, moved_as}
use Rattle.syn_replay.specs.Session.Stream.{stream_of}
use Rattle.syn_replay.specs.declared.report.Answer.TheVariants as answer
use Rattle.syn_replay.proofs.Walk.Lines.{line_read}
use Rattle.syn_replay.proofs.Walk.Parsed.{error_parsed, pieces_parsed}
use Rattle.syn_replay.proofs.session.stream.Stream.parse.Goals as goal
use Rattle.std.proofs.lemmas.Grind.{common_steps}
use Rattle.std.proofs.Common.{arith}

pub returns-in-Ok-clause-line : goal.returns-in-Ok-clause-line
returns-in-Ok-clause-line c =
    grind (arith, common_steps, pieces_parsed, line_read, c.cursor.ensures)

pub returns-in-Err-Refused-clause-line : goal.returns-in-Err-Refused-clause-line
returns-in-Err-Refused-clause-line c =
    let s = stream_of c.args.self.now in
    let t = c.parse-pieces.new.input in
    let k = kind_of c.args.kind in
    let e = c.in-Err-Refused.refusal in
    let said =
    error_parsed k (parse_state s) t (fault.Refused e)
    (subst (λ u. ReadsPieces (read k u.place) (kind_missing k u) u (Err (fault.Refused e)) t)
    c.resume-input.ensures
    (subst (λ r. let u = c.resume-input.result in
    ReadsPieces (read k u.place) (kind_missing k u) u r t)
    (c.in-Err-Refused.is ∙ ap Err c.in-Err-Refused.field-0-is) c.parse-pieces.ensures)) in
    line_read s _ c.position_at-position.result t (ap (λ u. moved_as u s) c.pause-self.ensures)
    (c.position_at-position.ensures ∙ ap printed_position c.cursor.ensures) (commands.parse k)
    (answer.Refused e) said.0 said.1
