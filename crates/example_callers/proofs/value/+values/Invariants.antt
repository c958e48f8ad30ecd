use Rattle.syn_parse.specs.Nested.{rank}
use Rattle.example_callers.proofs.value.+values.Given as goal

abbrev pub decreases-read_value : goal.decreases-read_value
decreases-read_value l = rank 0 l.input.now

abbrev pub decreases-read_values : goal.decreases-read_values
decreases-read_values l = rank 1 l.input.now
