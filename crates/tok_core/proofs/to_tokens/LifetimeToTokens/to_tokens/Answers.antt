use Rattle.std.proofs.Common.{sym, ap, rules}
use Rattle.tok_core.specs.Forest.{Forest, leaf}
use Rattle.tok_core.proofs.Facts.{concat-none}
use Rattle.tok_core.proofs.Fronts.{none_appended}
use Rattle.tok_leaves.specs.Leaves.{ident_of}
use Rattle.tok_core.proofs.Appended.{then_tree}
use Rattle.tok_core.proofs.to_tokens.LifetimeToTokens.to_tokens.Goals as goal

pub returns-in_err-ident-clause-err : goal.returns-in_err-ident-clause-err
returns-in_err-ident-clause-err c = none_appended _ _ _ _ _ (search rules)

pub returns-in_err-append-clause-err : goal.returns-in_err-append-clause-err
returns-in_err-append-clause-err c = none_appended _ _ _ _ _ (search rules)

pub returns-clause-ok : goal.returns-clause-ok
returns-clause-ok c =
    let old : Forest = c.args.tokens.now in
    let one = then_tree old old c.append.new.self _ _ _ (sym (concat-none old))
    c.in_ok-append.ensures.ok (ap leaf c.punct-mark.ensures) in
    then_tree old c.append.new.self c.append-2.new.self _ _ _ one c.in_ok-append-2.ensures.ok
    (ap (λ i. leaf (ident_of i)) c.in_ok-ident.ensures.cases)
