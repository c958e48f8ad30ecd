use Rattle.std.proofs.Common.{rules}
use Rattle.syn_punctuated.proofs.ListTakes.{list_keeps}
use Rattle.syn_derive.specs.Arguments.{take_nested_list}
use Rattle.syn_derive.specs.Metas.{nested_meta}
use Rattle.syn_derive.proofs.arguments.parse_nested_list.Goals as goal

pub returns : goal.returns
unfolding take_nested_list
returns c = search (rules, list_keeps nested_meta c.parse_terminated_with.ensures.turns)
