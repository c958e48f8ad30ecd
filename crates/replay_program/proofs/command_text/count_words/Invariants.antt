use Rattle.std.proofs.Common.{◌≡◌, ◌+◌, length}
use denote.Text.{Utf8}
use denote.Shadow.{shadow}
use Rattle.replay_program.specs.CommandText.{words}
use Rattle.replay_program.proofs.command_text.count_words.Given as goal

abbrev pub invariant-loop-after : goal.invariant-loop-after
invariant-loop-after l =
    shadow (Utf8 l.rest) × (l.words + length (words l.rest) ≡ length (words l.line))

abbrev pub decreases-loop-after : goal.decreases-loop-after
decreases-loop-after l = length (words l.rest)
