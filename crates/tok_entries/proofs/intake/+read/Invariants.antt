use Rattle.std.proofs.Common.{◌+◌, ◌*◌, length}
use denote.Text.{Utf8}
use denote.Shadow.{shadow}
use Rattle.tok_entries.specs.Private.Steps.{GoesOn}
use Rattle.tok_entries.proofs.intake.+read.Given as goal

abbrev pub decreases-read_group : goal.decreases-read_group
decreases-read_group g l = 2 * length l.after.now + 2

abbrev pub decreases-read_level : goal.decreases-read_level
decreases-read_level g l = 2 * length l.entries.now + 1

abbrev pub invariant-read_level-loop-first : goal.invariant-read_level-loop-first
invariant-read_level-loop-first g l =
    shadow (Utf8 l.rest)
    × GoesOn l.at l.levels l.entries l.texts l.left l.rest (g.B.Build.levels l.initial.builder)
    (g.B.Build.levels l.builder)

abbrev pub decreases-read_level-loop-first : goal.decreases-read_level-loop-first
decreases-read_level-loop-first g l = length l.left
