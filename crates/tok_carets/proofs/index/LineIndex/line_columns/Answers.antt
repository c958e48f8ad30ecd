use Rattle.std.proofs.Common.{rules, arith, ◌<◌, ◌∙◌, length, refl}
use Rattle.std.proofs.lemmas.List.{length-set}
use Rattle.std.proofs.lemmas.Str.{IsCharBoundary-from_drop}
use Rattle.std.specs.Str.{IsUtf8}
use Rattle.tok_carets.specs.declared.line.LineColumn.{LineColumn}
use Rattle.tok_carets.proofs.Stretches.{first_place, one_more, rest_stays}
use Rattle.tok_carets.proofs.index.LineIndex.line_columns.Goals as goal

pub loop-done-init : goal.loop-done-init
loop-done-init c =
    let text = c.args.self.now.text.now in
    let whole : IsUtf8 text = search rules in
    let first : LineColumn = record { line = 1; column = 1 } in (
      refl,
      omega arith,
      refl,
      (λ k h. absurd (omega (arith, h))),
      (IsCharBoundary-from_drop text 0 (omega arith) whole, first_place text first refl refl),
    )

pub loop-done-preserved : goal.loop-done-preserved
loop-done-preserved c =
    let text = c.args.self.now.text.now in
    let bytes = c.args.bytes.now in
    let mid = c.loop-done.places in
    let n = c.loop-done.done in
    let place = c.next_place-last.result.0 in
    let low : n < length mid = search rules in (
      length-set mid n place ∙ c.loop-done.invariant.0,
      omega (arith, c.loop-done-test.true),
      rest_stays text bytes mid n place low c.args.places.now c.loop-done.invariant.2,
      one_more text bytes mid n place low c.loop-done.invariant.3 c.next_place-last.ensures.place,
      c.next_place-last.ensures.known,
    )
