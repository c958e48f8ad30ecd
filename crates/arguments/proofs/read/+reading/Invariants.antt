use Rattle.std.proofs.Common.{◌+◌, ◌*◌}
use Rattle.tok_buffer.specs.Progress.{remaining}
use Rattle.arguments.proofs.read.+reading.Given as goal

abbrev pub decreases-read_value : goal.decreases-read_value
decreases-read_value l = 3 * remaining l.input.now.place

abbrev pub decreases-read_argument : goal.decreases-read_argument
decreases-read_argument l = 3 * remaining l.input.now.place + 1

abbrev pub decreases-read_arguments : goal.decreases-read_arguments
decreases-read_arguments l = 3 * remaining l.input.now.place + 2
