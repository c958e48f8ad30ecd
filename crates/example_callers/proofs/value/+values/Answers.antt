use Rattle.std.proofs.Common.{rules}
use Rattle.syn_punctuated.proofs.ListTakes.{list_keeps}
use Rattle.example_callers.specs.Values.{values}
use Rattle.example_callers.proofs.value.+values.Goals as goal

pub read_values-returns : goal.read_values-returns
read_values-returns t c = search (rules, list_keeps values c.parse_terminated_with.ensures.turns)
