use Rattle.std.proofs.Common.{rules}
use Rattle.replay_program.specs.Failures.{all_read, writing}
use Rattle.replay_program.specs.Program.{Serves}
use Rattle.replay_program.proofs.Once.{serves_only}
use Rattle.replay_program.proofs.answer.Goals as goal

pub returns-in-Ok-clause-only : goal.returns-in-Ok-clause-only
returns-in-Ok-clause-only g c =
    let bytes = c.args.input.now in
    let old = g.W.Sink.contents c.args.output.now in
    let new = g.W.Sink.contents c.send.new.output in
    let written = writing g.W.Sink.writes g.W.Sink.flushes c.args.output.now c.send.new.output in
    let served : Serves all_read written bytes c.send.result old new = search rules in
    serves_only all_read written bytes c.send.result old new served
