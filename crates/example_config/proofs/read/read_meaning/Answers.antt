use Rattle.syn_parse.specs.Tokens.{take_literal}
use Rattle.example_config.proofs.Meanings.{then_means}
use Rattle.example_config.specs.Reading.{meaning}
use Rattle.example_config.proofs.read.read_meaning.Goals as goal

pub returns : goal.returns
returns c =
    then_means take_literal meaning c.in_ok-literal.literal c.args.input.now c.parse.new.self
    c.literal_value.result c.in_ok-literal.ensures.takes c.literal_value.ensures
