use Rattle.std.proofs.Common.{◌≡◌, ◌++◌, length, map}
use denote.Text.{Utf8}
use denote.Shadow.{shadow}
use Rattle.std.specs.Option.{option_map}
use Rattle.replay_program.specs.CommandText.{all_looks, words}
use Rattle.syn_replay.specs.Meanings.{look_of}
use Rattle.replay_program.proofs.command_text.looks.Given as goal

abbrev pub invariant-loop-word : goal.invariant-loop-word
invariant-loop-word l =
    shadow (Utf8 l.rest) × (option_map (λ ls. map look_of l.looks.items ++ ls)
    (all_looks (words l.rest)) ≡ all_looks (words l.line))

abbrev pub decreases-loop-word : goal.decreases-loop-word
decreases-loop-word l = length (words l.rest)
