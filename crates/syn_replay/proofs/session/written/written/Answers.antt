use Rattle.std.proofs.Common.{◌∙◌, ap, map}
use Rattle.std.specs.Prelude.{string_bytes}
use Rattle.syn_replay.specs.Commands.{command_of}
use Rattle.syn_replay.specs.Session.Streams.{state_of}
use Rattle.syn_replay.proofs.Walk.Received.{lines_written, report_written}
use Rattle.syn_replay.proofs.session.written.written.Goals as goal

pub returns-clause-text : goal.returns-clause-text
returns-clause-text c =
    let cs = c.args.commands.now in
    ap string_bytes c.into_inner.ensures
    ∙ report_written _ string_bytes (λ _ _ _ t. t) c.args.buffer.now.forest (map command_of cs)
    _ (state_of c.run.new.streams) c.in_ok-verdict.verdict c.in_ok-streams.ensures.state
    c.in_ok-run.ensures.state c.in_ok-verdict.ensures.0 c.new-f.result c.run.new.receiver
    c.push_verdict.new.f c.new-f.ensures.plain
    (ap string_bytes c.new-f.ensures.writer ∙ c.in_ok-report_room.ensures.bytes)
    (lines_written _ _ cs _ _ c.in_ok-run.ensures.lines) c.in_ok-push_verdict.ensures
