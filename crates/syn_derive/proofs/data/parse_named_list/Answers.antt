use Rattle.std.proofs.Common.{rules}
use Rattle.syn_punctuated.proofs.ListTakes.{list_keeps}
use Rattle.syn_derive.specs.Fields.{take_named, named_field}
use Rattle.syn_derive.proofs.data.parse_named_list.Goals as goal

pub returns : goal.returns
unfolding take_named
returns c = search (rules, list_keeps named_field c.parse_terminated_with.ensures.turns)
