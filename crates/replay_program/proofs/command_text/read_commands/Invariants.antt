use Rattle.replay_program.proofs.CommandLines.{AreRead}
use Rattle.replay_program.proofs.Lines.{left_len}
use Rattle.replay_program.proofs.command_text.read_commands.Given as goal

abbrev pub invariant-loop-left : goal.invariant-loop-left
invariant-loop-left l = AreRead l.fn.lines l.left l.commands.items l.number

abbrev pub decreases-loop-left : goal.decreases-loop-left
decreases-loop-left l = left_len l.left
