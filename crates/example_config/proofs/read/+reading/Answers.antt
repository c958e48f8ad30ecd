use Rattle.std.proofs.Common.{rules}
use Rattle.syn_punctuated.proofs.ListTakes.{list_keeps}
use Rattle.example_config.specs.Nesting.{setting, value}
use Rattle.example_config.proofs.read.+reading.Goals as goal

pub read_settings-returns : goal.read_settings-returns
read_settings-returns t c = search (rules, list_keeps setting c.parse_terminated_with.ensures.turns)

pub read_values-returns : goal.read_values-returns
read_values-returns t c = search (rules, list_keeps value c.parse_terminated_with.ensures.turns)
