use Rattle.std.proofs.Common.{◌∙◌, refl, sym, ap, arith}
use Rattle.tok_core.specs.Private.Built.{state}
use Rattle.tok_core.proofs.Lexical.Blanks.{shorter}
use Rattle.tok_core.proofs.Lexical.Cuts.{so_far_start, so_far_taken, so_far_blank}
use Rattle.tok_core.proofs.Lexical.Cuts.{reads_all, refused_unclosed, nest_is_paired, returns_left}
use Rattle.tok_core.proofs.Lexical.Cuts.{none_left, fault_at}
use Rattle.tok_lexical.proofs.Texts.{nothing_left, some_left}
use Rattle.tok_core.proofs.lexer.read.Goals as goal

pub loop-rest-init : goal.loop-rest-init
loop-rest-init g c = (
  c.utf8.text,
  so_far_start _ _ _ _ (state g.B.Build.levels c.new-nest.result)
      c.new-nest.ensures.source c.new-nest.ensures.«open»
      (ap g.B.Build.levels c.new-nest.ensures.built ∙ c.requires.empty),
)

pub take_first-requires-clause-some : goal.take_first-requires-clause-some
take_first-requires-clause-some g c = some_left c.loop-rest.rest.now c.loop-rest.invariant.0
    (sym c.is_empty.ensures ∙ c.loop-rest-test.true)

pub take_first-requires-clause-fits : goal.take_first-requires-clause-fits
take_first-requires-clause-fits g c = omega (arith, c.loop-rest.invariant.1.short, c.requires.fits)

pub take_first-requires-clause-paired : goal.take_first-requires-clause-paired
take_first-requires-clause-paired g c = nest_is_paired c.loop-rest.invariant.1

pub take_first-requires-clause-returns : goal.take_first-requires-clause-returns
take_first-requires-clause-returns g c =
    λ h. c.may_have_return-returns.ensures (returns_left c.loop-rest.invariant.1 h)

pub returns-in-Err-clause-refuses : goal.returns-in-Err-clause-refuses
returns-in-Err-clause-refuses g c =
    fault_at c.loop-rest.invariant.1 c.in-Err.halt _ c.in-Err.ensures.refused c.fault.ensures

pub overflow_add-at : goal.overflow_add-at
overflow_add-at g c =
    let here = so_far_taken c.loop-rest.invariant.1 c.in-Ok.taken.1.now _ _
    c.loop-rest.invariant.0 c.in-Ok.ensures.utf8 c.in-Ok.ensures.taken in
    omega (arith, here.short, c.requires.fits)

pub loop-rest-smaller : goal.loop-rest-smaller
loop-rest-smaller g c =
    let t = c.in-Ok.ensures.taken in
    let l = shorter _ t.rule _ _ _ c.loop-rest.invariant.0 c.in-Ok.ensures.utf8 t.fits in
    let m = c.past_blanks-rest.ensures.shorter in
    omega arith

pub loop-rest-preserved : goal.loop-rest-preserved
loop-rest-preserved g c =
    let here = so_far_taken c.loop-rest.invariant.1 c.in-Ok.taken.1.now _ _
    c.loop-rest.invariant.0 c.in-Ok.ensures.utf8 c.in-Ok.ensures.taken in
    let rest = c.past_blanks-rest.ensures in
    (c.past_blanks-rest.utf8, so_far_blank here _ _ refl rest.shorter rest.blank)

pub returns-in-Some-clause-refuses : goal.returns-in-Some-clause-refuses
returns-in-Some-clause-refuses g c =
    refused_unclosed c.loop-rest.invariant.1 c.pop.new.self.items
    (c.in-Some.field-0-0, c.in-Some.begin) c.new-error.result
    (nothing_left c.loop-rest.rest.now (sym c.is_empty.ensures ∙ c.loop-rest-test.false))
    c.in-Some.ensures.items c.new-error.ensures

pub returns-clause-reads : goal.returns-clause-reads
returns-clause-reads g c =
    (reads_all c.loop-rest.invariant.1
    (nothing_left c.loop-rest.rest.now (sym c.is_empty.ensures ∙ c.loop-rest-test.false))
    (none_left _ _ c.in-None.ensures.cases.0 c.loop-rest.nest.«open».ok.0)).1

pub returns-clause-closed : goal.returns-clause-closed
returns-clause-closed g c =
    (reads_all c.loop-rest.invariant.1
    (nothing_left c.loop-rest.rest.now (sym c.is_empty.ensures ∙ c.loop-rest-test.false))
    (none_left _ _ c.in-None.ensures.cases.0 c.loop-rest.nest.«open».ok.0)).0
