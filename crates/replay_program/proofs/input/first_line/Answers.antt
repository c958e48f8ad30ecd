use Rattle.std.proofs.Common.{arith, rules}
use Rattle.tok_lexical.specs.Ascii.{line_feed}
use Rattle.replay_program.proofs.Lines.{after_first, cut_at, cut_nowhere}
use Rattle.replay_program.proofs.input.first_line.Goals as goal

pub range_from-requires : goal.range_from-requires
range_from-requires c =
    λ _. after_first line_feed _ _ c.in-Some.end (omega arith) c.utf8.rest c.as_bytes.ensures.value
    c.in-Some.ensures

pub returns-in-Some-clause-lines : goal.returns-in-Some-clause-lines
returns-in-Some-clause-lines c =
    cut_at line_feed _ c.args.rest.now c.range.result.now c.range_from.result.now c.in-Some.end
    c.as_bytes.ensures.value c.in-Some.ensures (search rules) (search rules)

pub returns-in-None-clause-lines : goal.returns-in-None-clause-lines
returns-in-None-clause-lines c =
    cut_nowhere line_feed _ _ c.as_bytes.ensures.value c.in-None.ensures
