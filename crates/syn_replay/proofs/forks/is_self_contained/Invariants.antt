use Rattle.std.proofs.Common.{◌≡◌, drop, map}
use Rattle.syn_replay.specs.Forks.{is_self_contained}
use Rattle.syn_replay.specs.Commands.{command_of}
use Rattle.syn_replay.proofs.forks.is_self_contained.Given as goal

abbrev pub invariant-loop-command : goal.invariant-loop-command
invariant-loop-command l =
    is_self_contained l.stream l.made (map command_of (drop l.command-index l.commands))
    ≡ is_self_contained l.stream l.made (map command_of l.commands)
