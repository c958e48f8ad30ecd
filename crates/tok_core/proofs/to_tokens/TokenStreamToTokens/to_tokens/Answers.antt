use Rattle.std.proofs.Common.{◌≡◌, ◌∙◌, sym, rules}
use Rattle.tok_core.proofs.Facts.{concat-none}
use Rattle.tok_core.proofs.Fronts.{some_appended, trees_of_take}
use Rattle.tok_core.proofs.to_tokens.TokenStreamToTokens.to_tokens.Goals as goal

pub loop-next-init : goal.loop-next-init
loop-next-init c = sym (concat-none c.args.tokens.now)

pub returns-in_err-clone-clause-err : goal.returns-in_err-clone-clause-err
returns-in_err-clone-clause-err c =
    let stopped = rw c.trees-next-items.ensures at
    (some_appended _ _ c.trees-next-items.result.now c.loop-next.next-index
    c.next-item.result c.loop-next-test.true c.next-item.is c.loop-next.invariant) in
    search rules

pub returns-in_err-append-clause-err : goal.returns-in_err-append-clause-err
returns-in_err-append-clause-err c =
    let same : c.append.new.self ≡ c.loop-next.tokens = c.in_err-append.ensures.err in
    let stopped = rw c.trees-next-items.ensures at
    (some_appended _ _ c.trees-next-items.result.now c.loop-next.next-index
    c.next-item.result c.loop-next-test.true c.next-item.is
    (same ∙ c.loop-next.invariant)) in
    search rules

pub loop-next-preserved : goal.loop-next-preserved
loop-next-preserved c =
    rw (c.in_ok-append.ensures.ok, c.in_ok-clone.ensures.cases, c.loop-next.invariant)
    (trees_of_take c.args.tokens.now c.trees-next-items.result.now c.loop-next.next-index
    c.next-item.result c.loop-next-test.true c.next-item.is)
