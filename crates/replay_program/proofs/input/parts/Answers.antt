use Rattle.replay_program.specs.Input.{lines_left}
use Rattle.replay_program.proofs.Lines.{parts_cut_again}
use Rattle.replay_program.proofs.input.parts.Goals as goal

pub returns-in-Some-cut_again-clause-parts : goal.returns-in-Some-cut_again-clause-parts
returns-in-Some-cut_again-clause-parts c =
    let (before, _, first) = c.in_ok-text.ensures.parts in
    let (middle, _, second) = c.in-Some.ensures.parts in
    let (third, _, last) = c.in-Some-cut_again.ensures.parts in
    parts_cut_again c.args.input.now before (lines_left c.in_ok-text.rest) first middle
    (lines_left c.in-Some.lines) second third (lines_left c.in-Some-cut_again.field-0.1) last
