use Rattle.syn_parse.specs.Nested.{rank}
use Rattle.example_config.proofs.read.+reading.Given as goal

abbrev pub decreases-read_value : goal.decreases-read_value
decreases-read_value l = rank 0 l.input.now

abbrev pub decreases-read_values : goal.decreases-read_values
decreases-read_values l = rank 1 l.input.now

abbrev pub decreases-read_setting : goal.decreases-read_setting
decreases-read_setting l = rank 1 l.input.now

abbrev pub decreases-read_settings : goal.decreases-read_settings
decreases-read_settings l = rank 2 l.input.now
