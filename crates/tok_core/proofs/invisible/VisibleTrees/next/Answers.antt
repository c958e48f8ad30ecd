use Rattle.std.proofs.Common.{◌∙◌, sym, ap, [], ◌∷◌, length, arith}
use Rattle.std.proofs.lemmas.List.{length-append}
use Rattle.tok_core.specs.Private.Pending.{pending, pending_weight}
use Rattle.tok_core.proofs.Pendings.{popped_none, takes_top, content_stands_in}
use Rattle.tok_core.proofs.invisible.VisibleTrees.next.Goals as goal

pub returns-in_default-invisible_content-clause-erased :
    goal.returns-in_default-invisible_content-clause-erased
returns-in_default-invisible_content-clause-erased c =
    let v = c.loop-first.self in
    let t = takes_top v.outer.items v.trees c.in-Some.rest c.in-Some.first.now
    c.in-Some.ensures.cases.0 in
    sym c.loop-first.invariant.0 ∙ t.same

pub returns-in_default-invisible_content-clause-smaller :
    goal.returns-in_default-invisible_content-clause-smaller
returns-in_default-invisible_content-clause-smaller c =
    let v = c.loop-first.self in
    let t = takes_top v.outer.items v.trees c.in-Some.rest c.in-Some.first.now
    c.in-Some.ensures.cases.0 in
    omega (arith, t.weight, c.loop-first.invariant.1)

pub loop-first-preserved-in-Some : goal.loop-first-preserved-in-Some
loop-first-preserved-in-Some c =
    let v = c.loop-first.self in
    let is = c.in-Some-invisible_content.ensures in
    let e = content_stands_in v.outer.items c.push.new.self.items v.trees c.in-Some.rest
    c.in-Some.first.now c.in-Some-invisible_content.content.now is.0 c.trees-self.result
    c.in-Some.ensures.cases.0 is.1 c.trees-self.ensures c.in_ok-push.ensures.items in
    (e.0 ∙ c.loop-first.invariant.0, omega (arith, e.1, c.loop-first.invariant.1))

pub loop-first-smaller-in-Some : goal.loop-first-smaller-in-Some
loop-first-smaller-in-Some c =
    let v = c.loop-first.self in
    let is = c.in-Some-invisible_content.ensures in
    let e = content_stands_in v.outer.items c.push.new.self.items v.trees c.in-Some.rest
    c.in-Some.first.now c.in-Some-invisible_content.content.now is.0 c.trees-self.result
    c.in-Some.ensures.cases.0 is.1 c.trees-self.ensures c.in_ok-push.ensures.items in
    omega (
      arith,
      e.1,
      ap (λ xs. length xs) c.in_ok-push.ensures.items,
      length-append v.outer.items (c.in-Some.rest ∷ []),
    )

pub loop-first-preserved : goal.loop-first-preserved
loop-first-preserved c =
    let v = c.loop-first.self in
    let p = popped_none v.outer.items v.trees c.in_default.ensures.cases in (
      ap pending (sym c.in-Some-pop.ensures.items) ∙ p.same ∙ c.loop-first.invariant.0,
      omega (
        arith,
        ap pending_weight c.in-Some-pop.ensures.items,
        p.weight,
        c.loop-first.invariant.1,
      ),
    )

pub loop-first-smaller : goal.loop-first-smaller
loop-first-smaller c =
    let v = c.loop-first.self in
    let p = popped_none v.outer.items v.trees c.in_default.ensures.cases in
    omega (
      arith,
      ap pending_weight c.in-Some-pop.ensures.items,
      p.weight,
      ap (λ xs. length xs) c.in-Some-pop.ensures.items,
      length-append c.pop.new.self.items (c.in-Some-pop.trees ∷ []),
    )
