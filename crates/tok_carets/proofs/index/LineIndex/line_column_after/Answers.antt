use Rattle.std.proofs.Common.{rules, arith, ◌+◌, ◌≤◌, length, ap, refl}
use Rattle.std.proofs.lemmas.Str.{IsUtf8-take}
use Rattle.std.specs.Str.{IsUtf8}
use Rattle.tok_carets.proofs.Stretches.{column_fits, place_further}
use Rattle.tok_carets.specs.declared.line.LineColumn.{LineColumn}
use Rattle.tok_carets.proofs.index.LineIndex.line_column_after.Goals as goal

pub overflow_add-result : goal.overflow_add-result
overflow_add-result c =
    let text = c.args.self.now.text.now in
    let whole : IsUtf8 text = search rules in
    let few : length text ≤ 9223372036854775807 = search rules in
    let fits = column_fits text c.in-Some.between.now c.args.from c.args.at c.args.known
    (IsUtf8-take text c.args.from whole c.requires.known.0) c.in-Some.ensures.stretch.1
    c.requires.known.1 in
    omega (arith, few, fits, c.chars_in.ensures.small)

pub returns-in-Some : goal.returns-in-Some
returns-in-Some c =
    let text = c.args.self.now.text.now in
    let whole : IsUtf8 text = search rules in
    let place : LineColumn =
    record { line = c.args.known.line; column = c.args.known.column + c.chars_in.result } in (
      c.in-Some.ensures.stretch.0,
      place_further text c.in-Some.between.now c.args.from c.args.at c.args.known
          (IsUtf8-take text c.args.from whole c.requires.known.0) c.in-Some.ensures.stretch.1
          c.requires.known.1 place refl
          (ap (λ n. c.args.known.column + n) c.chars_in.ensures.value),
    )
