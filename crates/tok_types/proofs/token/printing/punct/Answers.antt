use Rattle.std.proofs.Common.{◌≡◌, ◌∙◌, sym, rules, arith}
use Rattle.tok_core.specs.Forest.{AppendsFront}
use Rattle.tok_core.proofs.Facts.{concat-none}
use Rattle.tok_types.specs.Printed.{puncts}
use Rattle.tok_types.proofs.Puncts.{not_as_many, not_all_puncts, puncts_step, puncts_done}
use Rattle.tok_types.proofs.Puncts.{puncts_stopped}
use Rattle.tok_types.proofs.token.printing.punct.Goals as goal

pub returns-then-text-spans-clause-ok : goal.returns-then-text-spans-clause-ok
returns-then-text-spans-clause-ok c = grind (arith, not_as_many, not_all_puncts)

pub loop-index-init : goal.loop-index-init
loop-index-init c = sym (concat-none c.args.tokens.now)

pub returns-in_err-append-clause-err : goal.returns-in_err-append-clause-err
returns-in_err-append-clause-err c =
    let same : c.append.new.self ≡ c.loop-index.tokens = c.in_err-append.ensures.err in
    let stopped : AppendsFront c.args.tokens.now (puncts c.args.text.now c.args.spans.now)
    c.append.new.self =
    puncts_stopped c.args.text.now c.args.spans.now c.if-text-spans.false
    (sym c.are_puncts.ensures ∙ c.if-not-are_puncts.false) c.args.tokens.now
    c.append.new.self c.loop-index.index c.loop-index-test.true
    (same ∙ c.loop-index.invariant) in
    search rules

pub loop-index-preserved : goal.loop-index-preserved
loop-index-preserved c = grind (arith, puncts_step)

pub returns-clause-ok : goal.returns-clause-ok
returns-clause-ok c = puncts_done c.args.text.now c.args.spans.now c.if-text-spans.false
    (sym c.are_puncts.ensures ∙ c.if-not-are_puncts.false) c.args.tokens.now c.loop-index.tokens
    c.loop-index.index c.loop-index-test.false c.loop-index.invariant
