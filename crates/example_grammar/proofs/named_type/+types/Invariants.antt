use Rattle.std.proofs.Common.{◌+◌, ◌*◌}
use Rattle.tok_buffer.specs.Progress.{remaining}
use Rattle.example_grammar.proofs.named_type.+types.Given as goal

abbrev pub decreases-read_type : goal.decreases-read_type
decreases-read_type l = 3 * remaining l.input.now.place

abbrev pub decreases-read_arguments : goal.decreases-read_arguments
decreases-read_arguments l = 3 * remaining l.input.now.place + 2

abbrev pub decreases-read_types : goal.decreases-read_types
decreases-read_types l = 3 * remaining l.input.now.place + 1
