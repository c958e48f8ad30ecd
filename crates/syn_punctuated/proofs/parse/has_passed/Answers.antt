use Rattle.std.proofs.Common.{rules}
use Rattle.syn_punctuated.proofs.Progress.{lowers}
use Rattle.syn_punctuated.proofs.parse.has_passed.Goals as goal

pub returns-then-lt-clause-lowers : goal.returns-then-lt-clause-lowers
returns-then-lt-clause-lowers c = λ h. lowers _ _ (c.staying_adds_nothing.ensures c.args.start
    c.args.now) (search rules)
