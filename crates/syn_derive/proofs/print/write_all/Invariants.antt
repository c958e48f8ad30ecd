use Rattle.std.proofs.Common.{◌≡◌, take}
use Rattle.tok_core.specs.Forest.{concat}
use Rattle.syn_derive.specs.Printing.{all_trees}
use Rattle.syn_derive.proofs.print.write_all.Given as goal

abbrev pub invariant-loop-value : goal.invariant-loop-value
invariant-loop-value g l =
    l.tokens ≡ concat l.fn.tokens
    (all_trees g.T.ToTokens.printed (take l.value-index l.fn.values))
