use Rattle.std.proofs.Common.{rules}
use Rattle.syn_punctuated.proofs.ListTakes.{list_keeps}
use Rattle.syn_derive.specs.Fields.{take_unnamed, unnamed_field}
use Rattle.syn_derive.proofs.data.parse_unnamed_list.Goals as goal

pub returns : goal.returns
unfolding take_unnamed
returns c = search (rules, list_keeps unnamed_field c.parse_terminated_with.ensures.turns)
