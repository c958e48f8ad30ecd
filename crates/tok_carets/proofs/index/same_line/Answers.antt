use Rattle.std.proofs.Common.{rules}
use Rattle.tok_carets.proofs.Stretches.{stretch_of}
use Rattle.tok_carets.proofs.index.same_line.Goals as goal

pub returns-then-is_empty-clause-stretch : goal.returns-then-is_empty-clause-stretch
returns-then-is_empty-clause-stretch c =
    let over = c.past_others.ensures.skips in (
      search rules,
      stretch_of c.args.text.now c.in_ok-before.before.now c.in_ok-between.between.now
          over.0 c.past_others.result.now c.args.from c.args.at (search rules) (search rules)
          (search rules) over.1 (search rules),
    )
