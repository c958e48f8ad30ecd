use Rattle.std.proofs.Common.{◌≡◌, drop, map}
use Rattle.syn_replay.specs.Commands.{command_of}
use Rattle.syn_replay.specs.Transparent.{all_transparent}
use Rattle.replay_program.proofs.compared.all_transparent.Given as goal

abbrev pub invariant-loop-command : goal.invariant-loop-command
invariant-loop-command l =
    all_transparent (map command_of (drop l.command-index l.commands))
    ≡ all_transparent (map command_of l.commands)
