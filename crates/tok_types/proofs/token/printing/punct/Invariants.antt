use Rattle.std.proofs.Common.{◌≡◌, take}
use Rattle.tok_core.specs.Forest.{forest, concat}
use Rattle.tok_types.specs.Printed.{joint_puncts}
use Rattle.tok_types.proofs.token.printing.punct.Given as goal

abbrev pub invariant-loop-index : goal.invariant-loop-index
invariant-loop-index l = l.tokens ≡ concat l.fn.tokens
    (forest (take l.index (joint_puncts l.text l.spans)))
