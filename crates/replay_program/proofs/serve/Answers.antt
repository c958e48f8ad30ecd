use Rattle.std.proofs.Common.{List, ℕ, [], inl, inr, refl, subst}
use Rattle.std.proofs.KnownBytes.{Keeps-refl}
use Rattle.replay_program.specs.Failures.{reading, writing}
use Rattle.replay_program.specs.Program.{Serves, ServesOnly}
use Rattle.replay_program.proofs.Once.{known_any, known_read, serves_only, serves_read}
use Rattle.replay_program.proofs.serve.Goals as goal

pub returns-in-Ok-clause-answers : goal.returns-in-Ok-clause-answers
returns-in-Ok-clause-answers g c =
    let read = reading g.R.Source.reads c.args.input.now c.read_input.new.input in
    let written = writing g.W.Sink.writes g.W.Sink.flushes c.args.output.now c.answer.new.output in
    let old = g.W.Sink.contents c.args.output.now in
    let new = g.W.Sink.contents c.answer.new.output in
    let whole : read.whole c.deref.result.now =
    rw c.deref.ensures.value c.in-Ok.ensures.whole in
    let served =
    serves_read read written c.deref.result.now c.answer.result old new whole
    c.answer.ensures.serves in (
      c.deref.result.now,
      served,
      serves_only read written c.deref.result.now c.answer.result old new served,
    )

pub returns-in-Ok-clause-serves : goal.returns-in-Ok-clause-serves
returns-in-Ok-clause-serves g c =
    let read = reading g.R.Source.reads c.args.input.now c.read_input.new.input in
    let written = writing g.W.Sink.writes g.W.Sink.flushes c.args.output.now c.answer.new.output in
    let old = g.W.Sink.contents c.args.output.now in
    let new = g.W.Sink.contents c.answer.new.output in
    let P : List ℕ → Type 0 = λ bytes. Serves read written bytes c.answer.result old new in
    known_read P (g.R.Source.remaining c.args.input.now) c.in-Ok.bytes.items c.in-Ok.ensures.bytes
    (subst P c.deref.ensures.value
    (serves_read read written c.deref.result.now c.answer.result old new
    (rw c.deref.ensures.value c.in-Ok.ensures.whole)
    c.answer.ensures.serves))

pub returns-in-Ok-clause-only : goal.returns-in-Ok-clause-only
returns-in-Ok-clause-only g c =
    let read = reading g.R.Source.reads c.args.input.now c.read_input.new.input in
    let written = writing g.W.Sink.writes g.W.Sink.flushes c.args.output.now c.answer.new.output in
    let old = g.W.Sink.contents c.args.output.now in
    let new = g.W.Sink.contents c.answer.new.output in
    let P : List ℕ → Type 0 = λ bytes. ServesOnly read written bytes c.answer.result old new in
    known_read P (g.R.Source.remaining c.args.input.now) c.in-Ok.bytes.items c.in-Ok.ensures.bytes
    (subst P c.deref.ensures.value
    (serves_only read written c.deref.result.now c.answer.result old new
    (serves_read read written c.deref.result.now c.answer.result old new
    (rw c.deref.ensures.value c.in-Ok.ensures.whole)
    c.answer.ensures.serves)))

pub returns-in-Err-Failed-clause-only : goal.returns-in-Err-Failed-clause-only
returns-in-Err-Failed-clause-only g c =
    let read = reading g.R.Source.reads c.args.input.now c.read_input.new.input in
    let written = writing g.W.Sink.writes g.W.Sink.flushes c.args.output.now c.args.output.now in
    let old = g.W.Sink.contents c.args.output.now in
    known_any (λ bytes. ServesOnly read written bytes 2 old old)
    (g.R.Source.remaining c.args.input.now)
    (λ bytes. serves_only read written bytes 2 old old
    (inr (inr (
      refl,
      c.in-Err-Failed.ensures.failed c.in-Err-Failed.field-0-is,
      Keeps-refl old,
    ))))

pub returns-in-Err-Memory-clause-answers : goal.returns-in-Err-Memory-clause-answers
returns-in-Err-Memory-clause-answers g c =
    let read = reading g.R.Source.reads c.args.input.now c.read_input.new.input in
    let written = writing g.W.Sink.writes g.W.Sink.flushes c.args.output.now c.send.new.output in
    let old = g.W.Sink.contents c.args.output.now in
    let new = g.W.Sink.contents c.send.new.output in
    let served : Serves read written [] c.send.result old new =
    inr (inl (inr (c.in-Err-Memory.ensures.part c.in-Err-Memory.field-0-is), c.send.ensures)) in
    ([], served, serves_only read written [] c.send.result old new served)

pub returns-in-Err-Failed-clause-answers : goal.returns-in-Err-Failed-clause-answers
returns-in-Err-Failed-clause-answers g c =
    let read = reading g.R.Source.reads c.args.input.now c.read_input.new.input in
    let written = writing g.W.Sink.writes g.W.Sink.flushes c.args.output.now c.args.output.now in
    let old = g.W.Sink.contents c.args.output.now in
    let served : Serves read written [] 2 old old =
    inr (inr (refl, c.in-Err-Failed.ensures.failed c.in-Err-Failed.field-0-is, Keeps-refl old)) in
    ([], served, serves_only read written [] 2 old old served)
