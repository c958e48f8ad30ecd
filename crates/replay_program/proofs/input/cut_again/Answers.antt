use Rattle.replay_program.specs.Input.{is_cut, lines}
use Rattle.std.proofs.lemmas.List.Splits.{slice_split_none}
use Rattle.replay_program.proofs.input.cut_again.Goals as goal

pub returns-then-lacks_cuts-clause-parts : goal.returns-then-lacks_cuts-clause-parts
returns-then-lacks_cuts-clause-parts c =
    rw (c.in_ok-text.was {u = tt})
    (slice_split_none is_cut (lines c.in_ok-text.text.now)
    (c.lacks_cuts.ensures c.if-lacks_cuts.true))
