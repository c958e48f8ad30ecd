use Rattle.std.proofs.Common.{◌≡◌, drop, take, ap, ◌∙◌, [], ◌++◌, sym, append-nil, refl, Err, Ok, rules}
use Rattle.std.proofs.KnownBytes.{Appends-trans, Appends-kept}
use Rattle.replay_program.proofs.Failing.{one_more}
use Rattle.replay_program.proofs.Fronts.{front_more, part_from}
use Rattle.replay_program.proofs.output.write_whole.Goals as goal
use Rattle.replay_program.proofs.output.write_whole.Goals.{in-Ok-write_some, in-Err-write_some}

pub loop-i-preserved : goal.loop-i-preserved
loop-i-preserved g c =
    let bytes = c.args.bytes.now in
    let rest = c.loop-i.rest.now in
    let next = c.match-write_some.rest.now in
    let began = c.args.output.now in
    let old = g.S.Sink.contents began in
    let so_far = g.S.Sink.contents c.loop-i.output in
    let sink = c.write_some.new.self in
    let new = g.S.Sink.contents sink in
    let (front, all, out, counted) = c.loop-i.invariant in
    elim c.match-write_some.branch [
      | in-Ok-write_some w ↦
          let left : next ≡ drop w.in-Ok-write_some.n rest =
          ap (λ r. r.now) w.rest-is ∙ part_from w.in-Ok-write_some.n rest in
          let more = take w.in-Ok-write_some.n rest in (
            front ++ more,
            front_more bytes front rest next w.in-Ok-write_some.n all left,
            Appends-trans old so_far new front more out w.in-Ok-write_some.ensures.bytes,
            one_more g.S.Sink.writes began c.loop-i._i front c.loop-i.output
                (Ok w.in-Ok-write_some.n) more sink counted w.in-Ok-write_some.ensures.call
                (search rules) (front ++ more) refl,
          )
      | in-Err-write_some w ↦ (
        front,
        all ∙ ap (λ z. front ++ z) (sym (ap (λ r. r.now) w.rest-is)),
        Appends-kept old so_far new front out w.in-Err-write_some.ensures.bytes,
        one_more g.S.Sink.writes began c.loop-i._i front c.loop-i.output
            (Err w.in-Err-write_some.error) [] sink counted w.in-Err-write_some.ensures.call
            (search rules) front (sym (append-nil front)),
      )
    ]
