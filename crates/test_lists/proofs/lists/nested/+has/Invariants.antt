use Rattle.std.proofs.Common.{◌<◌}
use denote.Param.Weighed.{most}
use Rattle.test_lists.specs.declared.lists.nested.Argument.{size-Argument}
use Rattle.test_lists.proofs.lists.nested.+has.Given as goal

abbrev pub decreases-has : goal.decreases-has
decreases-has l = goal.size-has l

abbrev pub invariant-loop-item : goal.invariant-loop-item
invariant-loop-item l = most size-Argument l.item-iterator < size-Argument l.argument
