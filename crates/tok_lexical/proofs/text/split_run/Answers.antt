use Rattle.std.proofs.Common.{◌∙◌, sym}
use Rattle.std.specs.Str.{chars}
use Rattle.std.proofs.lemmas.Str.{chars-nil}
use Rattle.tok_lexical.proofs.Runs.{run_boundary, skips_nothing, skips_run}
use Rattle.tok_lexical.proofs.text.split_run.Goals as goal

pub returns-then-not-begins_run-clause-skips : goal.returns-then-not-begins_run-clause-skips
returns-then-not-begins_run-clause-skips g c =
    let passes = g.S.ByteTest.passes c.args.test.now in
    rw chars-nil (skips_nothing passes c.requires.ascii (chars c.args.text.now)
    (sym c.begins_run.ensures ∙ c.if-not-begins_run.true))

pub split_at-requires : goal.split_at-requires
split_at-requires g c =
    let passes = g.S.ByteTest.passes c.args.test.now in
    run_boundary passes c.requires.ascii _ _ c.utf8.text
    (rw c.as_bytes.ensures.value at c.run_from.ensures)

pub returns-clause-skips : goal.returns-clause-skips
returns-clause-skips g c =
    let passes = g.S.ByteTest.passes c.args.test.now in
    let parts = c.split_at.ensures in
    skips_run passes c.requires.ascii _ _ _ _ c.utf8.text parts.front parts.back parts.front_len
    parts.back_len
    (rw c.as_bytes.ensures.value at c.run_from.ensures)
