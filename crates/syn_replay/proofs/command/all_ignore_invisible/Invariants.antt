use Rattle.std.proofs.Common.{◌≡◌, drop, map}
use Rattle.syn_replay.specs.Meanings.{look_of}
use Rattle.syn_replay.specs.Commands.{all_ignore_invisible}
use Rattle.syn_replay.proofs.command.all_ignore_invisible.Given as goal

abbrev pub invariant-loop-look : goal.invariant-loop-look
invariant-loop-look l =
    all_ignore_invisible (map look_of (drop l.look-index l.looks))
    ≡ all_ignore_invisible (map look_of l.looks)
