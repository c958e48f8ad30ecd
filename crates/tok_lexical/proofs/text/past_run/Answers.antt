use Rattle.tok_lexical.proofs.Runs.{run_boundary, skips_run}
use Rattle.tok_lexical.proofs.text.past_run.Goals as goal

pub split_at-requires : goal.split_at-requires
split_at-requires g c =
    let passes = g.S.ByteTest.passes c.args.test.now in
    run_boundary passes c.requires.ascii _ _ c.utf8.text
    (rw c.as_bytes.ensures.value at c.front_run.ensures)

pub returns-clause-skips : goal.returns-clause-skips
returns-clause-skips g c =
    let passes = g.S.ByteTest.passes c.args.test.now in
    let parts = c.split_at.ensures in (
      _,
      skips_run passes c.requires.ascii _ _ _ _ c.utf8.text parts.front parts.back parts.front_len
          parts.back_len
          (rw c.as_bytes.ensures.value at c.front_run.ensures),
    )
