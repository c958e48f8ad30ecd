use Rattle.std.proofs.Common.{rules}
use Rattle.syn_derive.specs.Inputs.{take_enum_item}
use Rattle.syn_derive.proofs.derive.parse_enum.Goals as goal

pub returns : goal.returns
unfolding take_enum_item
returns c = search rules depth 60
