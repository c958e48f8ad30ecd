use Rattle.std.proofs.Common.{arith, rules}
use Rattle.tok_lexical.specs.Ascii.{space}
use Rattle.replay_program.proofs.Lines.{after_first, cut_at, cut_nowhere}
use Rattle.replay_program.proofs.command_text.split_at_space.Goals as goal

pub range_from-requires : goal.range_from-requires
range_from-requires c =
    λ _. after_first space _ _ c.in-Some.end (omega arith) c.utf8.text c.as_bytes.ensures.value
    c.in-Some.ensures

pub returns-in-Some-clause-parts : goal.returns-in-Some-clause-parts
returns-in-Some-clause-parts c =
    cut_at space _ c.args.text.now c.range.result.now c.range_from.result.now c.in-Some.end
    c.as_bytes.ensures.value c.in-Some.ensures (search rules) (search rules)

pub returns-in-None-clause-parts : goal.returns-in-None-clause-parts
returns-in-None-clause-parts c =
    cut_nowhere space _ _ c.as_bytes.ensures.value c.in-None.ensures
