use Rattle.std.proofs.Common.{◌≡◌, rules, arith, refl, subst, sym, map, List, ◌++◌, None, Some, Bool}
use Rattle.std.proofs.Common.{true, false}
use Rattle.std.specs.Fn.{CalledAtMut}
use Rattle.syn_punctuated.proofs.RetainSteps.{each_front, each_last, retains_trailing, retains_last}
use Rattle.syn_punctuated.proofs.RetainSteps.{retains_refused}
use Rattle.syn_punctuated.specs.Private.Boxes.{boxed_values}
use Rattle.syn_punctuated.specs.Retained.{AtEach, TakesAtMut}
use Rattle.syn_punctuated.proofs.punctuated.Punctuated.retain.Given.{Over}
use Rattle.syn_punctuated.proofs.punctuated.Punctuated.retain.Goals.{After-test}
use Rattle.syn_punctuated.proofs.punctuated.Punctuated.retain.Goals as goal

pub retain_pairs-requires : goal.retain_pairs-requires
retain_pairs-requires g c =
    each_front (CalledAtMut g.F.FnMut) (TakesAtMut g.F.FnMut) c.args.f
    (map (λ p. p.0) c.args.self.now.inner.items)
    (boxed_values c.args.self.now.last) c.requires

pub test-requires : goal.test-requires
test-requires g c =
    let before : List g.row.T.Denot = map (λ p. p.0) c.args.self.now.inner.items in
    let (run, runs, _) = c.retain_pairs.ensures in
    let each =
    subst (λ z. AtEach (CalledAtMut g.F.FnMut) (TakesAtMut g.F.FnMut) c.args.f
    (before ++ boxed_values z)) c.in-Some.is c.requires in
    subst (TakesAtMut g.F.FnMut c.retain_pairs.new.f) (sym c.as_mut.ensures.value)
    (each_last (CalledAtMut g.F.FnMut) (TakesAtMut g.F.FnMut) c.args.f before c.in-Some.last.value
    run c.retain_pairs.new.f each runs)

-- the test is called on the last value, and returns this
called : (g : Over) (c : After-test g) (b : Bool) → c.test.result ≡ b
    → CalledAtMut g.F.FnMut c.retain_pairs.new.f c.in-Some.last.value b c.test.new.f
    c.test.new.value
called g c b is = rw (sym is, sym c.as_mut.ensures.value) c.test.ensures

pub returns-in-Some-pop : goal.returns-in-Some-pop
returns-in-Some-pop g c =
    let step = called g (goal.at.returns-in-Some-pop g c).After-test false c.if-not-test.true in
    retains_refused _ _ c.args.self.now (record {
      inner =
          c.pop.new.self;
      last = Some c.replace.new.b;
    }) c.in-Some.last c.in-Some.is
    c.retain_pairs.new.f c.retain_pairs.new.pairs.items c.retain_pairs.ensures c.test.new.f
    c.test.new.value step c.pop.result c.pop.ensures.items (λ n. cc) (search rules)

pub returns-then-not-test : goal.returns-then-not-test
returns-then-not-test g c =
    let step = called g (goal.at.returns-then-not-test g c).After-test false c.if-not-test.true in
    retains_refused _ _ c.args.self.now (record { inner = c.pop.new.self; last = None })
    c.in-Some.last c.in-Some.is c.retain_pairs.new.f c.retain_pairs.new.pairs.items
    c.retain_pairs.ensures c.test.new.f c.test.new.value step None c.in-None-pop.ensures.items
    (λ _. omega (arith, c.in-None-pop.ensures.cases)) refl

pub returns-in-Some : goal.returns-in-Some
returns-in-Some g c =
    let step = called g (goal.at.returns-in-Some g c).After-test true c.if-not-test.false in
    let last = record c.in-Some.last { value = c.test.new.value } in
    retains_last _ _ c.args.self.now (record { inner = c.retain_pairs.new.pairs; last = Some last })
    c.in-Some.last c.in-Some.is c.retain_pairs.new.f c.retain_pairs.new.pairs.items
    c.retain_pairs.ensures c.test.new.f c.test.new.value step last refl refl refl

pub returns : goal.returns
returns g c =
    retains_trailing _ _ c.args.self.now (record {
      inner =
          c.retain_pairs.new.pairs;
      last = c.args.self.now.last;
    }) c.retain_pairs.new.f
    c.retain_pairs.ensures c.in-None.is c.in-None.is
